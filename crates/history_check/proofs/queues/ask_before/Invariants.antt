use Rattle.struct_machine.specs.StructureView.{stands_at}
use Rattle.history_check.specs.Queues.{IsAskedBefore}
use Rattle.history_check.proofs.Pairing.{Done}
use Rattle.history_check.proofs.queues.ask_before.Given as goal

abbrev pub invariant-loop-queue : goal.invariant-loop-queue
invariant-loop-queue g l = Done (IsAskedBefore l.number (stands_at g.E.Engine.meaning l.machine.machine)) l.queue-index
    l.fn.queues l.queues
