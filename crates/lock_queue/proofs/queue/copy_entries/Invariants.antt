use Rattle.lock_queue.proofs.Imports.{◌≡◌, take}
use Rattle.lock_queue.proofs.queue.copy_entries.Given as goal

abbrev pub invariant-loop-waiters : goal.invariant-loop-waiters
invariant-loop-waiters l = l.made.items ≡ take l.waiters-index l.entries
