use Rattle.lock_table.proofs.Imports.{◌≡◌, ◌++◌, map, filter, drop, joined, is_by, resource_of}
use Rattle.lock_table.proofs.table.keys_by.Given as goal

abbrev pub invariant-loop-entry : goal.invariant-loop-entry
invariant-loop-entry l = l.keys.items ++ map resource_of (filter (is_by l.conn)
    (joined (drop l.entry-index l.entries))) ≡ map resource_of (filter (is_by l.conn) (joined l.entries))
