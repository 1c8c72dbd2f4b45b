use Rattle.plex_script.proofs.Imports.{rules}
use Rattle.plex_script.proofs.judging.undone.Goals as goal

pub returns : goal.returns
returns c = search rules
