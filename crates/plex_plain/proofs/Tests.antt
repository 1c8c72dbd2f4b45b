-- Tests of each element of a list.
use Rattle.plex_plain.proofs.Imports.{arith, list_all-append, ◌≡◌, Bool, true, false, List, [], ◌∷◌, ◌++◌, refl, All, list_all, and_parts, and_from, All-nil, All-cons}

module _ {X : Type 0} (p : X → Bool) where
  pub all-append : (xs ys : List X) → list_all p xs ≡ true → list_all p ys ≡ true → list_all p (xs ++ ys) ≡ true
  all-append xs ys h k = grind (arith, list_all-append, and_from)

  -- what passes one test passes another
  pub all-weaker : (q : X → Bool) → ((x : X) → p x ≡ true → q x ≡ true) → (xs : List X) → list_all p xs ≡ true
      → list_all q xs ≡ true
  all-weaker q f [] h = refl
  all-weaker q f (x ∷ xs) h =
      let parts = and_parts (p x) (list_all p xs) h in
      and_from (q x) (list_all q xs) (f x parts.0) (all-weaker q f xs parts.1)

  -- what passes one test fails another
  pub all-fail : (q : X → Bool) → ((x : X) → p x ≡ true → q x ≡ false) → (xs : List X) → list_all p xs ≡ true
      → All (λ x. q x ≡ false) xs
  all-fail q f [] h = All-nil (λ (x : X). q x ≡ false)
  all-fail q f (x ∷ xs) h =
      let parts = and_parts (p x) (list_all p xs) h in
      All-cons (λ (y : X). q y ≡ false) x xs (f x parts.0) (all-fail q f xs parts.1)
