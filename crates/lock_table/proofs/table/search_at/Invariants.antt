use Rattle.lock_table.proofs.Imports.{◌≡◌, not, is_some, drop, list_all, joined, placed_on, Held, part_of, owners_in}
use Rattle.lock_table.proofs.table.search_at.Given as goal

abbrev pub invariant-loop-entry : goal.invariant-loop-entry
invariant-loop-entry l = list_all (λ (held : Held). not (is_some
    (placed_on part_of held.r l.k (owners_in l.entries)))) (joined (drop l.entry-index l.entries)) ≡ list_all
    (λ (held : Held). not (is_some (placed_on part_of held.r l.k (owners_in l.entries)))) (joined l.entries)
