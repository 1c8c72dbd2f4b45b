use Rattle.lock_queue.proofs.Imports.{◌≡◌, ◌+◌, drop, recorded_in, joined}
use Rattle.lock_queue.proofs.queue.recorded_all.Given as goal

abbrev pub invariant-loop-waiters : goal.invariant-loop-waiters
invariant-loop-waiters l =
    l.count + recorded_in (joined (drop l.waiters-index l.entries)) ≡ recorded_in (joined l.entries)
