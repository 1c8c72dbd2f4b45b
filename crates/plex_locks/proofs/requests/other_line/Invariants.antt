use Rattle.plex_locks.proofs.Imports.{◌≡◌, drop, find, is_other}
use Rattle.plex_locks.proofs.requests.other_line.Given as goal

-- the first one is among the lines that are left
abbrev pub invariant-loop-line : goal.invariant-loop-line
invariant-loop-line l = find is_other (drop l.line-index l.lines) ≡ find is_other l.lines
