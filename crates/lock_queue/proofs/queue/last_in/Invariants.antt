use Rattle.lock_queue.proofs.Imports.{◌≡◌, option_map, drop, joined, later_of, last_of, part_of}
use Rattle.lock_queue.proofs.queue.last_in.Given as goal

abbrev pub invariant-loop-waiters : goal.invariant-loop-waiters
invariant-loop-waiters l = later_of part_of (option_map (λ waiter. waiter.now) l.last)
    (last_of part_of (joined (drop l.waiters-index l.entries))) ≡ last_of part_of (joined l.entries)
