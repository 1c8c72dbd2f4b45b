-- A text in two parts: a script, and what stands behind the line that ends it.
use Rattle.std.specs.Prelude.{◌≡◌, ◌≢◌, ◌⊎◌, ℕ, ◌==◌, not, true, List, [], ◌∷◌, ◌++◌, codes}
use Rattle.std.specs.List.{list_all, flat_map}
use Rattle.plex_load.specs.PlexSpell.Words.{line_text}

-- a line of the script: no feed is in it, and it isn't the one that ends the script
abbrev pub IsBefore : List ℕ → Type 0
IsBefore line = (list_all (λ b. not (b == 10)) line ≡ true) × (line ≢ codes "REPORT")

abbrev pub AreBefore : List (List ℕ) → Type 0
AreBefore [] = Unit {0}
AreBefore (line ∷ lines) = IsBefore line × AreBefore lines

-- the text is its script's part, the line REPORT, and the rest: this is the first line of exactly these six bytes, and
-- it may be the last without a feed
pub record IsSplit (text part rest : List ℕ) : Type 0 where
  pub lines : List (List ℕ)
  pub before : AreBefore lines
  pub part_is : part ≡ flat_map line_text lines
  pub whole : (text ≡ part ++ (codes "REPORT\n" ++ rest)) ⊎ ((text ≡ part ++ codes "REPORT") × (rest ≡ []))

-- no line of the text is REPORT
abbrev pub HasNoReport : List ℕ → Type 0
HasNoReport text = (part rest : List ℕ) → IsSplit text part rest → ⊥
