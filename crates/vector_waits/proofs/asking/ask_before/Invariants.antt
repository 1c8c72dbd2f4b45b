-- The waits before this place are asked.
use Rattle.std.proofs.Common.{◌≡◌, ◌++◌, map, take, drop}
use Rattle.struct_machine.specs.StructureView.{stands_at}
use Rattle.vector_waits.specs.Waits.{before_block}
use Rattle.vector_waits.proofs.asking.ask_before.Given as goal

abbrev pub invariant-loop-k : goal.invariant-loop-k
invariant-loop-k g l = l.waits ≡ map (before_block l.number (stands_at g.E.Engine.meaning l.machine.machine l.conn))
    (take l.k l.fn.waits) ++ drop l.k l.fn.waits
