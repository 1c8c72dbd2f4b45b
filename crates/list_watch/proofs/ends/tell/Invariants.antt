use Rattle.list_watch.proofs.Imports.{◌≡◌, ◌+◌, ◌++◌, length, drop, filter, is_cleared, clear_changes}
use Rattle.list_watch.proofs.ends.tell.Given as goal

abbrev pub invariant-loop-row : goal.invariant-loop-row
invariant-loop-row l =
    (l.out.bits.items ++ clear_changes l.ends (drop l.row-index l.rows) ≡ l.initial.out.bits.items ++ clear_changes
    l.ends l.rows) × (l.out.bits.room + length (filter (is_cleared l.ends) l.rows) ≡ l.initial.out.bits.room
    + length (filter (is_cleared l.ends) (drop l.row-index l.rows))) × (l.out.mail ≡ l.initial.out.mail)
