use Rattle.history_check.specs.Queues.{IsBegun}
use Rattle.history_check.proofs.Pairing.{Done}
use Rattle.history_check.proofs.queues.begin.Given as goal

abbrev pub invariant-loop-queue : goal.invariant-loop-queue
invariant-loop-queue l = Done IsBegun l.queue-index l.fn.queues l.queues
