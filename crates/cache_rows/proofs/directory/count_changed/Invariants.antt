use Rattle.cache_rows.proofs.Imports.{◌≡◌, ◌+◌, length, filter, drop, Changed, row_at, has_storage, row_or}
use Rattle.cache_rows.proofs.directory.count_changed.Given as goal

abbrev pub invariant-loop-k : goal.invariant-loop-k
invariant-loop-k l = l.count + length (filter (λ (changed : Changed). has_storage l.stg
    (row_or (row_at l.store.entries) changed.name)) (drop l.k l.classes.entries)) ≡ length (filter
    (λ (changed : Changed). has_storage l.stg (row_or (row_at l.store.entries) changed.name)) l.classes.entries)
