use Rattle.struct_cell.proofs.Imports.{arith}
use Rattle.struct_cell.proofs.touched.Touched.note.Goals as goal

pub follow-requires-clause-every : goal.follow-requires-clause-every
follow-requires-clause-every g c κs within' = grind arith
