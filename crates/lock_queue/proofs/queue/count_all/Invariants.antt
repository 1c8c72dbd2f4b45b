use Rattle.lock_queue.proofs.Imports.{◌≡◌, ◌+◌, length, drop, joined}
use Rattle.lock_queue.proofs.queue.count_all.Given as goal

abbrev pub invariant-loop-waiters : goal.invariant-loop-waiters
invariant-loop-waiters l = l.count + length (joined (drop l.waiters-index l.entries)) ≡ length (joined l.entries)
