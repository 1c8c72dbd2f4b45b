use Rattle.lock_table.proofs.Imports.{◌≡◌, ◌++◌, map, drop, joined, resource_of}
use Rattle.lock_table.proofs.table.keys_of.Given as goal

abbrev pub invariant-loop-entry : goal.invariant-loop-entry
invariant-loop-entry l =
    l.keys.items ++ map resource_of (joined (drop l.entry-index l.entries)) ≡ map resource_of (joined l.entries)
