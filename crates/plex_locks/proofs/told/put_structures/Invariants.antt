use Rattle.plex_locks.proofs.Imports.{◌≡◌, ◌++◌, drop, map, flat_map, line_text, structure_line}
use Rattle.plex_locks.proofs.told.put_structures.Given as goal

-- with the lines that are left the text is what it is to be
abbrev pub invariant-loop-form : goal.invariant-loop-form
invariant-loop-form l = l.text.items ++ flat_map line_text (map structure_line
    (drop l.form-index l.structures)) ≡ l.initial.text.items ++ flat_map line_text (map structure_line l.structures)
