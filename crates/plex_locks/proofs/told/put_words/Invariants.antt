use Rattle.plex_locks.proofs.Imports.{◌≡◌, ◌++◌, drop, flat_map, line_text, word_lines}
use Rattle.plex_locks.proofs.told.put_words.Given as goal

-- with the words that are left the text is what it is to be
abbrev pub invariant-loop-word : goal.invariant-loop-word
invariant-loop-word l = l.text.items ++ flat_map line_text
    (word_lines l.word (drop l.word l.words)) ≡ l.initial.text.items ++ flat_map line_text (word_lines 0 l.words)
