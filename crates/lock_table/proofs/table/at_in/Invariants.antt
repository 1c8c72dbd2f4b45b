use Rattle.lock_table.proofs.Imports.{◌≡◌, not, is_some, list_all, placed_on, Held, part_of, owners_in}
use Rattle.lock_table.proofs.table.at_in.Given as goal

abbrev pub invariant-loop-held : goal.invariant-loop-held
invariant-loop-held l =
    list_all (λ (held : Held). not (is_some (placed_on part_of held.r l.k (owners_in l.entries)))) l.held-iterator
    ≡ list_all (λ (held : Held). not (is_some (placed_on part_of held.r l.k (owners_in l.entries)))) l.fn.entry
