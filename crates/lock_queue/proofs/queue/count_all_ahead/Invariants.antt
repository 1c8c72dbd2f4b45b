use Rattle.lock_queue.proofs.Imports.{◌≡◌, ◌+◌, length, filter, drop, resource_before, joined, Waiter}
use Rattle.lock_queue.proofs.queue.count_all_ahead.Given as goal

abbrev pub invariant-loop-waiters : goal.invariant-loop-waiters
invariant-loop-waiters l = l.count + length
    (filter (λ (waiter : Waiter). resource_before waiter.r l.r) (joined (drop l.waiters-index l.entries))) ≡ length
    (filter (λ (waiter : Waiter). resource_before waiter.r l.r) (joined l.entries))
