use Rattle.struct_cell.proofs.Imports.{arith}
use Rattle.struct_cell.proofs.touched.name_one.Goals as goal

pub returns-clause-spared : goal.returns-clause-spared
returns-clause-spared c there conn index some most below spared = grind arith
