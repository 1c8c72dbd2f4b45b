use Rattle.struct_cell.proofs.Imports.{arith}
use Rattle.struct_cell.proofs.TurnLaws.{entered-more}
use Rattle.struct_cell.proofs.inside.enter_marks.Goals as goal

pub loop-mark-preserved : goal.loop-mark-preserved
loop-mark-preserved g c = grind (arith, entered-more)
