use Rattle.lock_core.proofs.Imports.{◌≡◌, ◌++◌, drop, filter, is_awaited}
use Rattle.lock_core.proofs.departures.push_awaited.Given as goal

abbrev pub invariant-loop-r : goal.invariant-loop-r
invariant-loop-r l = l.list.items ++ filter (is_awaited l.queue.waiters) (drop l.r-index l.resources)
    ≡ l.initial.list.items ++ filter (is_awaited l.queue.waiters) l.resources
