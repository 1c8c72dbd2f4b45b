use Rattle.plex_report.proofs.Imports.{◌≡◌, ◌++◌, drop, with_number}
use Rattle.plex_report.proofs.report.put_numbered.Given as goal

-- with those that are left the list is what it is to be
abbrev pub invariant-loop-facility : goal.invariant-loop-facility
invariant-loop-facility l = l.sorted.items ++ with_number l.number
    (drop l.facility-index l.facilities) ≡ l.initial.sorted.items ++ with_number l.number l.facilities
