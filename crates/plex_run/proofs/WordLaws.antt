-- Words that ask for a load.
use Rattle.plex_run.proofs.Imports.{◌≡◌, ℕ, List, [], ◌∷◌, length, get_or, Some, arith, codes, String, string_bytes, Say, number_said, Work}

-- a list of two
two_of : {X : Type 0} (xs : List X) (a b : X) → length xs ≡ 2 → a ≡ get_or xs 0 a → b ≡ get_or xs 1 b
    → xs ≡ a ∷ b ∷ []
two_of [] a b two first second = absurd (omega (arith, two))
two_of (x ∷ []) a b two first second = absurd (omega (arith, two))
two_of (x ∷ y ∷ []) a b two first second = cc
two_of (x ∷ y ∷ z ∷ more) a b two first second = absurd (omega (arith, two))

module _ {A : Type 0} (words : List (String A)) (word numeral : String A) (n : ℕ) (two : length words ≡ 2)
    (first : word ≡ get_or words 0 word) (second : numeral ≡ get_or words 1 numeral) where
  -- what both have to be
  pub asks_load : string_bytes word ≡ codes "load" → number_said (string_bytes numeral) ≡ Some n
      → Say words (Work.Load n)
  asks_load load said = grind (arith, two_of)

  -- and what they are
  pub is_asked : Say words (Work.Load n)
      → (string_bytes word ≡ codes "load") × (number_said (string_bytes numeral) ≡ Some n)
  is_asked loading = grind (arith, two_of)
