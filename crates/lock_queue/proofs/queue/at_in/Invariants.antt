use Rattle.lock_queue.proofs.Imports.{◌≡◌, not, is_some, list_all, placed_on, Waiter, part_of, waiters_in}
use Rattle.lock_queue.proofs.queue.at_in.Given as goal

abbrev pub invariant-loop-waiter : goal.invariant-loop-waiter
invariant-loop-waiter l = list_all
    (λ (waiter : Waiter). not (is_some (placed_on part_of waiter.r l.k (waiters_in l.entries)))) l.waiter-iterator ≡
    list_all (λ (waiter : Waiter). not (is_some (placed_on part_of waiter.r l.k (waiters_in l.entries)))) l.fn.waiters
