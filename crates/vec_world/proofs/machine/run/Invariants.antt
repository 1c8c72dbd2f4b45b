-- The world so far is the one that the steps so far make, and each of them fits its type.
use Rattle.vec_world.proofs.Imports.{◌≡◌, take, All, FitsHalf, world_of}
use Rattle.vec_world.proofs.machine.run.Given as goal

abbrev pub invariant-loop-step : goal.invariant-loop-step
invariant-loop-step l =
    (l.world ≡ world_of l.words l.passes (take l.step-index l.steps)) × All FitsHalf (take l.step-index l.steps)
