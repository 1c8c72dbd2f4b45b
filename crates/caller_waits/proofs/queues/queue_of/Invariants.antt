-- The items before this place have their waits.
use Rattle.caller_waits.proofs.QueueLaws.{IsQueueSoFar}
use Rattle.caller_waits.proofs.queues.queue_of.Given as goal

abbrev pub invariant-loop-item : goal.invariant-loop-item
invariant-loop-item l = IsQueueSoFar l.on l.vector l.fn.conn l.items l.queue l.sure l.item-index
