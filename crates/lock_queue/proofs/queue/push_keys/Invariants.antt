use Rattle.lock_queue.proofs.Imports.{◌≡◌, ◌++◌, map, resource_of}
use Rattle.lock_queue.proofs.queue.push_keys.Given as goal

abbrev pub invariant-loop-waiter : goal.invariant-loop-waiter
invariant-loop-waiter l =
    l.keys.items ++ map resource_of l.waiter-iterator ≡ l.fn.keys.items ++ map resource_of l.fn.waiters
