use Rattle.plex_locks.proofs.Imports.{◌≡◌, ◌++◌, drop, flat_map, line_text, hand_lines}
use Rattle.plex_locks.proofs.told.put_hands.Given as goal

-- with the lines that are left the text is what it is to be
abbrev pub invariant-loop-told : goal.invariant-loop-told
invariant-loop-told l = l.text.items ++ flat_map line_text (flat_map
    hand_lines (drop l.told-index l.hands)) ≡ l.initial.text.items ++ flat_map line_text (flat_map hand_lines l.hands)
