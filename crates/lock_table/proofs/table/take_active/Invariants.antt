use Rattle.lock_table.proofs.Imports.{◌≡◌, ◌≤◌, length, map, take, drop, owners_without_active}
use Rattle.lock_table.proofs.table.take_active.Given as goal

abbrev pub invariant-loop-entry : goal.invariant-loop-entry
invariant-loop-entry l =
    (take l.entry-index l.entries ≡ map (owners_without_active l.conn) (take l.entry-index l.initial.entries))
    × (drop l.entry-index l.entries ≡ drop l.entry-index l.initial.entries) × (length l.fn.spare ≤ length l.spare)
