-- The structures before this one have their queues.
use Rattle.caller_waits.proofs.QueueLaws.{AreBelow}
use Rattle.caller_waits.proofs.queues.waits.Given as goal

abbrev pub invariant-loop-number : goal.invariant-loop-number
invariant-loop-number l = AreBelow l.structures l.conn l.items l.queues.items l.number
