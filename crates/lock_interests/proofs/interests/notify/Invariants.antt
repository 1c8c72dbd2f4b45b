use Rattle.lock_interests.proofs.Imports.{◌≡◌, ◌+◌, ◌≤◌, ◌++◌, length, owners_left, letters_told}
use Rattle.lock_interests.proofs.interests.notify.Given as goal

abbrev pub invariant-loop-held : goal.invariant-loop-held
invariant-loop-held l = (l.out.mail.items ++ letters_told l.r l.conn
    (owners_left l.held-iterator) ≡ l.initial.out.mail.items ++ letters_told l.r l.conn (owners_left l.fn.owners))
    × (l.initial.out.mail.room + length (letters_told l.r l.conn (owners_left l.held-iterator)) ≡ l.out.mail.room
    + length (letters_told l.r l.conn (owners_left l.fn.owners))) × (length
    (letters_told l.r l.conn (owners_left l.held-iterator)) ≤ l.out.mail.room) × (l.out.bits ≡ l.initial.out.bits)
