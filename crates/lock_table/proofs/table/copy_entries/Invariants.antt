use Rattle.lock_table.proofs.Imports.{◌≡◌, take}
use Rattle.lock_table.proofs.table.copy_entries.Given as goal

abbrev pub invariant-loop-entry : goal.invariant-loop-entry
invariant-loop-entry l = l.made.items ≡ take l.entry-index l.entries
