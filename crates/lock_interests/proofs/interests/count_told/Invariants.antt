use Rattle.lock_interests.proofs.Imports.{◌≡◌, ◌+◌, ◌<◌, length, owners_left, letters_told}
use Rattle.lock_interests.proofs.interests.count_told.Given as goal

abbrev pub invariant-loop-held : goal.invariant-loop-held
invariant-loop-held l = (l.count + length (letters_told l.r l.conn (owners_left l.held-iterator)) ≡ length
    (letters_told l.r l.conn (owners_left l.fn.owners)))
    × (l.count + length (owners_left l.held-iterator) < 4294967296)
