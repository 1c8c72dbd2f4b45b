use Rattle.lock_table.proofs.Imports.{◌≡◌, ◌≤◌, ◌++◌, ◌-◌, length, take, drop, owners_without_active}
use Rattle.lock_table.proofs.entry.take_all_active.Given as goal

abbrev pub invariant-loop : goal.invariant-loop
invariant-loop l =
    let left = length l.fn.owners - l.counter in
    (left ≤ length l.owners) × (length l.fn.spare ≤ length l.spare) × (drop
    left l.owners ++ owners_without_active l.conn (take left l.owners) ≡ owners_without_active l.conn l.fn.owners)
