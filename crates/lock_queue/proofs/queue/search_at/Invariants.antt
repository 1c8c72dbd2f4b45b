use Rattle.lock_queue.proofs.Imports.{◌≡◌, not, is_some, drop, list_all, joined, placed_on, Waiter, part_of, waiters_in}
use Rattle.lock_queue.proofs.queue.search_at.Given as goal

abbrev pub invariant-loop-waiters : goal.invariant-loop-waiters
invariant-loop-waiters l = list_all (λ (waiter : Waiter). not (is_some
    (placed_on part_of waiter.r l.k (waiters_in l.entries)))) (joined (drop l.waiters-index l.entries)) ≡ list_all
    (λ (waiter : Waiter). not (is_some (placed_on part_of waiter.r l.k (waiters_in l.entries)))) (joined l.entries)
