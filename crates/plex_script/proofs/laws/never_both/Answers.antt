use Rattle.plex_script.proofs.Imports.{arith}
use Rattle.plex_script.proofs.LineLaws.{all-clean}
use Rattle.plex_script.proofs.laws.never_both.Goals as goal

pub returns : goal.returns
returns c = grind (arith, all-clean)
