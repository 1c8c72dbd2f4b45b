use Rattle.plex_script.proofs.Imports.{lines_of, empty_script}
use Rattle.plex_script.proofs.LineLaws.{all-one}
use Rattle.plex_script.proofs.laws.one_script.Goals as goal

pub returns : goal.returns
returns c = λ text one other h k. all-one (lines_of text) empty_script 0 one other h k
