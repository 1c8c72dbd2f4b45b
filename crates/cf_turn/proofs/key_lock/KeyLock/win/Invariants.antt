use Rattle.cf_turn.proofs.Imports.{◌≡◌, [], stand_waiting}
use Rattle.cf_turn.proofs.key_lock.KeyLock.win.Given as goal

-- the seat is of this lock, and waits
abbrev pub invariant-loop : goal.invariant-loop
invariant-loop g l = (l.seat.table_id ≡ l.self.name) × (l.seat.me ≡ (stand_waiting l.self.key, []))
