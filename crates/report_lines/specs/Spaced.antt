-- Lines with one blank between each two words.
use Rattle.std.specs.Prelude.{ℕ, ◌==◌, Bool, true, false, not, if◌then◌else◌, List, [], ◌∷◌, Option, None}
use Rattle.plex_spell.specs.Words.{is_nonempty, words_of}
use Rattle.line_rows.specs.Rows.{Row}

-- whether the rest of a line is spaced so; `fresh` where a word has to begin
abbrev pub is_spaced_at : Bool → List ℕ → Bool
is_spaced_at fresh [] = not fresh
is_spaced_at fresh (b ∷ bs) =
    if b == 32 then (if fresh then false else is_spaced_at true bs)
    else if b == 9 then false
    else is_spaced_at false bs

-- one blank between each two words, none at the ends, and no tab
abbrev pub is_spaced : List ℕ → Bool
is_spaced line = is_spaced_at (is_nonempty line) line

-- what a row reads from a line that is spaced so
abbrev pub line_value : {V : Type 0} → Row V → List ℕ → Option V
line_value row line = if is_spaced line then row.values (words_of line) else None
