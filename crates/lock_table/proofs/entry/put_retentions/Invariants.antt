use Rattle.lock_table.proofs.Imports.{◌≡◌, ◌≤◌, ◌++◌, ◌-◌, length, take, drop, map, in_retention_of}
use Rattle.lock_table.proofs.entry.put_retentions.Given as goal

abbrev pub invariant-loop : goal.invariant-loop
invariant-loop l =
    let left = length l.fn.owners - l.counter in
    (left ≤ length l.owners) × (drop left l.owners ++ map (in_retention_of l.conn l.retained)
    (take left l.owners) ≡ map (in_retention_of l.conn l.retained) l.fn.owners)
