use Rattle.plex_script.proofs.Imports.{◌≡◌, ◌++◌, drop, map, flat_map, line_text, connector_line}
use Rattle.plex_script.proofs.printer.put_connectors.Given as goal

-- with the lines that are left the text is what it is to be
abbrev pub invariant-loop-name : goal.invariant-loop-name
invariant-loop-name l = l.text.items ++ flat_map line_text (map connector_line
    (drop l.name-index l.connectors)) ≡ l.initial.text.items ++ flat_map line_text (map connector_line l.connectors)
