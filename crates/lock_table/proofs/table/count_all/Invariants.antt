use Rattle.lock_table.proofs.Imports.{◌≡◌, ◌+◌, length, drop, joined}
use Rattle.lock_table.proofs.table.count_all.Given as goal

abbrev pub invariant-loop-entry : goal.invariant-loop-entry
invariant-loop-entry l = l.count + length (joined (drop l.entry-index l.entries)) ≡ length (joined l.entries)
