use Rattle.lock_queue.proofs.Imports.{◌≡◌, option_map, later_of, last_of, part_of}
use Rattle.lock_queue.proofs.queue.last_among.Given as goal

abbrev pub invariant-loop-waiter : goal.invariant-loop-waiter
invariant-loop-waiter l = later_of part_of (option_map (λ waiter. waiter.now) l.last) (last_of part_of
    l.waiter-iterator) ≡ later_of part_of (option_map (λ waiter. waiter.now) l.fn.best) (last_of part_of l.fn.waiters)
