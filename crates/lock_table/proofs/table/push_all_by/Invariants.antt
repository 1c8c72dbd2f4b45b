use Rattle.lock_table.proofs.Imports.{◌≡◌, ◌++◌, map, filter, is_by, resource_of}
use Rattle.lock_table.proofs.table.push_all_by.Given as goal

abbrev pub invariant-loop-held : goal.invariant-loop-held
invariant-loop-held l = l.keys.items ++ map resource_of
    (filter (is_by l.conn) l.held-iterator) ≡ l.fn.keys.items ++ map resource_of (filter (is_by l.conn) l.fn.entry)
