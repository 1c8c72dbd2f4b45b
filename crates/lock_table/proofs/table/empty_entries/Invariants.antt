use Rattle.lock_table.proofs.Imports.{◌≡◌, replicate, []}
use Rattle.lock_table.proofs.table.empty_entries.Given as goal

abbrev pub invariant-loop : goal.invariant-loop
invariant-loop l = l.made.items ≡ replicate l.counter []
