use Rattle.plex_script.proofs.Imports.{◌≡◌, ◌++◌, drop, map, flat_map, line_text, body_line}
use Rattle.plex_script.proofs.printer.put_lines.Given as goal

-- with the lines that are left the text is what it is to be
abbrev pub invariant-loop-line : goal.invariant-loop-line
invariant-loop-line l = l.text.items ++ flat_map line_text (map (body_line l.script)
    (drop l.line-index l.lines)) ≡ l.initial.text.items ++ flat_map line_text (map (body_line l.script) l.lines)
