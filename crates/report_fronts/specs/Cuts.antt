-- Lines of a text, which end at its feeds.
use Rattle.std.specs.Prelude.{◌≡◌, ℕ, ◌==◌, Bool, true, not, List, [], ◌∷◌}
use Rattle.std.specs.List.{list_all}

-- a line has no feed
abbrev pub is_free : List ℕ → Bool
is_free line = list_all (λ b. not (b == 10)) line

abbrev pub AreFree : List (List ℕ) → Type 0
AreFree [] = Unit {0}
AreFree (line ∷ lines) = (is_free line ≡ true) × AreFree lines
