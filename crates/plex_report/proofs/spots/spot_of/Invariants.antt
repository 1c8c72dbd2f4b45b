use Rattle.plex_report.proofs.Imports.{◌≡◌, ◌+◌, take, sum_by}
use Rattle.plex_report.proofs.spots.spot_of.Given as goal

-- so many lines have the sections before
abbrev pub invariant-loop-section : goal.invariant-loop-section
invariant-loop-section g l = l.k ≡ sum_by (λ x. g.S.Section.size x + 1) (take l.section l.sections) + l.left
