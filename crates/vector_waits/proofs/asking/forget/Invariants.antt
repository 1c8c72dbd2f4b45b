-- What was told before this place is forgotten.
use Rattle.std.proofs.Common.{◌≡◌, ◌++◌, map, take, drop}
use Rattle.vector_waits.specs.Waits.{untold}
use Rattle.vector_waits.proofs.asking.forget.Given as goal

abbrev pub invariant-loop-wait : goal.invariant-loop-wait
invariant-loop-wait l = l.waits ≡ map untold (take l.wait-index l.fn.waits) ++ drop l.wait-index l.fn.waits
