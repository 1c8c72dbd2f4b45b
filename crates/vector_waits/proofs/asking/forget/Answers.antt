use Rattle.std.proofs.Common.{rules, refl, false, ◌<◌, length}
use Rattle.vector_waits.specs.Waits.{untold}
use Rattle.vector_waits.proofs.Parts.{part_step}
use Rattle.vector_waits.proofs.asking.forget.Goals as goal

pub loop-wait-preserved : goal.loop-wait-preserved
loop-wait-preserved c =
    let within : c.loop-wait.wait-index < length c.args.waits.now = search rules in
    part_step untold c.args.waits.now c.loop-wait.waits c.loop-wait.wait-index
    (record { at = 0; sure = 0; index = 0; bit = false; told = false }) _ c.loop-wait.invariant within refl
