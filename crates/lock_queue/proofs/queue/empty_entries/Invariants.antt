use Rattle.lock_queue.proofs.Imports.{◌≡◌, replicate, []}
use Rattle.lock_queue.proofs.queue.empty_entries.Given as goal

abbrev pub invariant-loop : goal.invariant-loop
invariant-loop l = l.made.items ≡ replicate l.counter []
