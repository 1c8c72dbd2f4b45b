use Rattle.cache_rows.proofs.Imports.{arith}
use Rattle.cache_rows.proofs.TallyLaws.{absent, there}
use Rattle.cache_rows.proofs.rows.Rows.has.Goals as goal

pub returns-in-Some : goal.returns-in-Some
returns-in-Some c = grind (arith, there)

pub returns-in-None : goal.returns-in-None
returns-in-None c = grind (arith, absent)
