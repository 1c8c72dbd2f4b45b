use Rattle.plex_script.proofs.Imports.{◌≡◌, ◌++◌, drop, map, flat_map, line_text, pref_line}
use Rattle.plex_script.proofs.printer.put_prefs.Given as goal

-- with the lines that are left the text is what it is to be
abbrev pub invariant-loop-pref : goal.invariant-loop-pref
invariant-loop-pref l = l.text.items ++ flat_map line_text (map (pref_line l.form)
    (drop l.pref-index l.prefs)) ≡ l.initial.text.items ++ flat_map line_text (map (pref_line l.form) l.prefs)
