use Rattle.lock_table.proofs.Imports.{◌≡◌, ◌++◌, map, resource_of}
use Rattle.lock_table.proofs.table.push_keys.Given as goal

abbrev pub invariant-loop-held : goal.invariant-loop-held
invariant-loop-held l =
    l.keys.items ++ map resource_of l.held-iterator ≡ l.fn.keys.items ++ map resource_of l.fn.entry
