use Rattle.list_watch.proofs.Imports.{◌≡◌, ◌+◌, ◌++◌, length, drop, filter, is_turned, turn_changes}
use Rattle.list_watch.proofs.watch.tell.Given as goal

abbrev pub invariant-loop-row : goal.invariant-loop-row
invariant-loop-row l = (l.out.bits.items ++ turn_changes l.header
    l.full (drop l.row-index l.rows) ≡ l.initial.out.bits.items ++ turn_changes l.header l.full l.rows)
    × (l.out.bits.room + length (filter (is_turned l.header l.full) l.rows) ≡ l.initial.out.bits.room
    + length (filter (is_turned l.header l.full) (drop l.row-index l.rows))) × (l.out.mail ≡ l.initial.out.mail)
