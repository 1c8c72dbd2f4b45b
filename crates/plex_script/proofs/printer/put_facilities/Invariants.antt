use Rattle.plex_script.proofs.Imports.{◌≡◌, ◌++◌, drop, map, flat_map, line_text, facility_line}
use Rattle.plex_script.proofs.printer.put_facilities.Given as goal

-- with the lines that are left the text is what it is to be
abbrev pub invariant-loop-facility : goal.invariant-loop-facility
invariant-loop-facility l = l.text.items ++ flat_map line_text (map facility_line (drop l.facility-index
    l.facilities)) ≡ l.initial.text.items ++ flat_map line_text (map facility_line l.facilities)
