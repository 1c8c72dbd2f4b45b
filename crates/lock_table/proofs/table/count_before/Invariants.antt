use Rattle.lock_table.proofs.Imports.{◌≡◌, ◌+◌, length, filter, drop, resource_before, joined, Held}
use Rattle.lock_table.proofs.table.count_before.Given as goal

abbrev pub invariant-loop-entry : goal.invariant-loop-entry
invariant-loop-entry l = l.count + length (filter (λ (held : Held). resource_before held.r l.r) (joined (drop
    l.entry-index l.entries))) ≡ length (filter (λ (held : Held). resource_before held.r l.r) (joined l.entries))
