use Rattle.plex_locks.proofs.Imports.{◌≡◌, ◌++◌, drop, map, flat_map, line_text, done_line}
use Rattle.plex_locks.proofs.told.put_all_done.Given as goal

-- with the lines that are left the text is what it is to be
abbrev pub invariant-loop-done : goal.invariant-loop-done
invariant-loop-done l = l.text.items ++ flat_map line_text
    (map done_line (drop l.done-index l.all)) ≡ l.initial.text.items ++ flat_map line_text (map done_line l.all)
