-- Lists in order by key, with several elements of one key, are equal where their filters per key are.
use Rattle.cf_lists.proofs.Imports.{arith, ◌≡◌, Bool, true, false, not, List, [], ◌∷◌, filter, refl, list_all, and_parts, false≢true, not-true, pairwise}
use Rattle.cf_lists.proofs.FilterLaws.{list_all-filter}

module _ {X K : Type 0} (key : X → K)
    (same : K → K → Bool) (before : X → X → Bool) (same-refl : (k : K) → same k k ≡ true)
    (ties : (x y : X) → before x y ≡ false → before y x ≡ false → same (key y) (key x) ≡ true) where
  abbrev pub is_keyed : K → X → Bool
  is_keyed k x = same (key x) k

  -- an element doesn't stand behind another
  abbrev pub in_turn : X → X → Bool
  in_turn x y = not (before y x)

  -- what begins a filter of a list has what all of the list have
  heads : (q p : X → Bool) (x : X) (zs ys : List X) → list_all q ys ≡ true → x ∷ zs ≡ filter p ys → q x ≡ true
  heads q p x zs ys h e = grind (arith, and_parts, list_all-filter q p ys h)

  first_tied : (b c : Bool) (x y : X) (xs ys : List X) → is_keyed (key x) y ≡ b → is_keyed (key y) x ≡ c
      → list_all (in_turn x) xs ≡ true → list_all (in_turn y) ys ≡ true → filter (is_keyed (key x)) (x ∷ xs) ≡ filter
      (is_keyed (key x)) (y ∷ ys) → filter (is_keyed (key y)) (x ∷ xs) ≡ filter (is_keyed (key y)) (y ∷ ys) → x ≡ y
  first_tied true c x y xs ys e f h g p q = grind arith
  first_tied false true x y xs ys e f h g p q = grind arith
  first_tied false false x y xs ys e f h g p q = grind (arith, not-true, heads, false≢true)

  rest_tied : (k : K) (b : Bool) (x : X) (xs ys : List X) → is_keyed k x ≡ b
      → filter (is_keyed k) (x ∷ xs) ≡ filter (is_keyed k) (x ∷ ys) → filter (is_keyed k) xs ≡ filter (is_keyed k) ys
  rest_tied k true x xs ys e f = grind arith
  rest_tied k false x xs ys e f = rw e at f

  pub ordered_filters : (xs ys : List X) → pairwise in_turn xs ≡ true → pairwise in_turn ys ≡ true
      → ((k : K) → filter (is_keyed k) xs ≡ filter (is_keyed k) ys) → xs ≡ ys
  ordered_filters [] [] h g f = refl
  ordered_filters [] (y ∷ ys) h g f = absurd (let e = rw (same-refl (key y)) at (f (key y)) in cc)
  ordered_filters (x ∷ xs) [] h g f = absurd (let e = rw (same-refl (key x)) at (f (key x)) in cc)
  ordered_filters (x ∷ xs) (y ∷ ys) h g f =
      let left = and_parts (list_all (in_turn x) xs) (pairwise in_turn xs) h in
      let right = and_parts (list_all (in_turn y) ys) (pairwise in_turn ys) g in
      let first : x ≡ y = first_tied _ _ x y xs ys refl refl left.0 right.0 (f (key x)) (f (key y)) in
      cc (first, ordered_filters xs ys left.1 right.1 (grind (arith, rest_tied)))
