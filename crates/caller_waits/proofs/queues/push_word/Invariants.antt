-- The bits before this one have their waits.
use Rattle.caller_waits.proofs.QueueLaws.{IsWordSoFar}
use Rattle.caller_waits.proofs.queues.push_word.Given as goal

abbrev pub invariant-loop-k : goal.invariant-loop-k
invariant-loop-k l = IsWordSoFar l.fn.queue l.queue l.vector l.at l.sure l.word l.value l.k l.many
