use Rattle.shell_laws.proofs.Imports.{arith}
use Rattle.shell_laws.proofs.FillingLaws.{filled-replay}
use Rattle.shell_laws.proofs.laws.fills_in_copy_alone.Goals as goal

pub returns : goal.returns
returns g c = grind (arith, filled-replay)
