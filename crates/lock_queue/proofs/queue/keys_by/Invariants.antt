use Rattle.lock_queue.proofs.Imports.{◌≡◌, ◌++◌, map, filter, drop, joined, is_by, resource_of}
use Rattle.lock_queue.proofs.queue.keys_by.Given as goal

abbrev pub invariant-loop-waiters : goal.invariant-loop-waiters
invariant-loop-waiters l = l.keys.items ++ map resource_of (filter (is_by l.conn)
    (joined (drop l.waiters-index l.entries))) ≡ map resource_of (filter (is_by l.conn) (joined l.entries))
