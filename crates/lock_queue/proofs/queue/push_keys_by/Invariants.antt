use Rattle.lock_queue.proofs.Imports.{◌≡◌, ◌++◌, map, filter, is_by, resource_of}
use Rattle.lock_queue.proofs.queue.push_keys_by.Given as goal

abbrev pub invariant-loop-waiter : goal.invariant-loop-waiter
invariant-loop-waiter l = l.keys.items ++ map resource_of (filter
    (is_by l.conn) l.waiter-iterator) ≡ l.fn.keys.items ++ map resource_of (filter (is_by l.conn) l.fn.waiters)
