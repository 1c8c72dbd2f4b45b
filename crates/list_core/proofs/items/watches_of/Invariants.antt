use Rattle.list_core.proofs.Imports.{◌≡◌, ◌++◌, drop, map, Watched, triple_of}
use Rattle.list_core.proofs.items.watches_of.Given as goal

abbrev pub invariant-loop-row : goal.invariant-loop-row
invariant-loop-row l = l.list.items ++ map (λ (row : Watched). triple_of row.monitor)
    (drop l.row-index l.rows) ≡ map (λ (row : Watched). triple_of row.monitor) l.rows
