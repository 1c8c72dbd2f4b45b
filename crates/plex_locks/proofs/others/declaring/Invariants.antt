use Rattle.plex_locks.proofs.Imports.{◌≡◌, ℕ, length, lines_of, line_number, declaring}
use Rattle.plex_locks.proofs.others.declaring.Given as goal

-- it is declared among the lines that are left
abbrev pub invariant-loop-rest : goal.invariant-loop-rest
invariant-loop-rest l = (count : ℕ) × (l.number ≡ line_number count)
    × (declaring l.left count (lines_of l.rest) ≡ declaring l.place 0 (lines_of l.text))

abbrev pub decreases-loop-rest : goal.decreases-loop-rest
decreases-loop-rest l = length l.rest
