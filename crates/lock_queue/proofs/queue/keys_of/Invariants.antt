use Rattle.lock_queue.proofs.Imports.{◌≡◌, ◌++◌, map, drop, joined, resource_of}
use Rattle.lock_queue.proofs.queue.keys_of.Given as goal

abbrev pub invariant-loop-waiters : goal.invariant-loop-waiters
invariant-loop-waiters l =
    l.keys.items ++ map resource_of (joined (drop l.waiters-index l.entries)) ≡ map resource_of (joined l.entries)
