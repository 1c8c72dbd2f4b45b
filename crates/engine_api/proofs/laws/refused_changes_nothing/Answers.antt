use Rattle.engine_api.proofs.Imports.{arith}
use Rattle.engine_api.proofs.ShellLaws.{replay-refused}
use Rattle.engine_api.proofs.laws.refused_changes_nothing.Goals as goal

pub returns : goal.returns
returns g c = grind (arith, replay-refused)
