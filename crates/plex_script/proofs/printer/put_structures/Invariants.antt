use Rattle.plex_script.proofs.Imports.{◌≡◌, ◌++◌, drop, flat_map, line_text, structure_lines}
use Rattle.plex_script.proofs.printer.put_structures.Given as goal

-- with the lines that are left the text is what it is to be
abbrev pub invariant-loop-form : goal.invariant-loop-form
invariant-loop-form l = l.text.items ++ flat_map line_text (flat_map structure_lines (drop l.form-index l.structures))
    ≡ l.initial.text.items ++ flat_map line_text (flat_map structure_lines l.structures)
