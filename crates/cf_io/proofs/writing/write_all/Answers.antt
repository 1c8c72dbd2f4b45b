use Rattle.cf_io.proofs.Imports.{arith, ◌≡◌, ◌-◌, ◌≤◌, length-take, length-drop, common_steps}
use Rattle.cf_io.proofs.Pieces.{Appends-more}
use Rattle.cf_io.proofs.writing.write_all.Goals as goal

pub loop-written-preserved : goal.loop-written-preserved
loop-written-preserved g c = grind (arith, common_steps, length-take, length-drop, Appends-more)
