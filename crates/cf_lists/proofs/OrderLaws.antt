-- Lists in order by key are equal where they are found alike.
use Rattle.cf_lists.proofs.Imports.{arith, ◌≡◌, Bool, true, false, List, [], ◌∷◌, Some, None, find, refl, sym, ◌∙◌, list_all, and_parts, pairwise}
use Rattle.cf_lists.proofs.FilterLaws.{all_found, find_none, none_from_all, list_all_weaker}

module _ {X K : Type 0} (key : X → K) (same : K → K → Bool) (before : X → X → Bool)
    (same-eq : (j k : K) → same j k ≡ true → j ≡ k) (same-refl : (k : K) → same k k ≡ true)
    (apart : (x y : X) → before x y ≡ true → (same (key x) (key y) ≡ false) × (same (key y) (key x) ≡ false))
    (one_way : (x y : X) → before x y ≡ true → before y x ≡ true → ⊥) where
  abbrev pub is_keyed : K → X → Bool
  is_keyed k x = same (key x) k

  found_front : (k : K) (b : Bool) (x : X) (xs ys : List X)
      → is_keyed k x ≡ b → (b ≡ true → find (is_keyed k) xs ≡ None) → (b ≡ true → find (is_keyed k) ys ≡ None)
      → find (is_keyed k) (x ∷ xs) ≡ find (is_keyed k) (x ∷ ys) → find (is_keyed k) xs ≡ find (is_keyed k) ys
  found_front k true x xs ys e h g f = h refl ∙ sym (g refl)
  found_front k false x xs ys e h g f = rw e at f

  first_same : (b c : Bool) (x y : X) (xs ys : List X) → is_keyed (key x) y ≡ b → is_keyed (key y) x ≡ c
      → list_all (before x) xs ≡ true → list_all (before y) ys ≡ true → find (is_keyed (key x)) (x ∷ xs) ≡ find
      (is_keyed (key x)) (y ∷ ys) → find (is_keyed (key y)) (x ∷ xs) ≡ find (is_keyed (key y)) (y ∷ ys) → x ≡ y
  first_same true c x y xs ys e f h g p q = grind arith
  first_same false true x y xs ys e f h g p q = grind arith
  first_same false false x y xs ys e f h g p q = grind (arith, all_found)

  pub ordered_same : (xs ys : List X) → pairwise before xs ≡ true → pairwise before ys ≡ true
      → ((k : K) → find (is_keyed k) xs ≡ find (is_keyed k) ys) → xs ≡ ys
  ordered_same [] [] h g f = refl
  ordered_same [] (y ∷ ys) h g f = absurd (let e : None ≡ Some y = rw (same-refl (key y)) at (f (key y)) in cc)
  ordered_same (x ∷ xs) [] h g f = absurd (let e : Some x ≡ None = rw (same-refl (key x)) at (f (key x)) in cc)
  ordered_same (x ∷ xs) (y ∷ ys) h g f =
      let left = and_parts (list_all (before x) xs) (pairwise before xs) h in
      let right = and_parts (list_all (before y) ys) (pairwise before ys) g in
      let first : x ≡ y = first_same _ _ x y xs ys refl refl left.0 right.0 (f (key x)) (f (key y)) in
      let here : list_all (before x) ys ≡ true = cc in
      cc (first, ordered_same xs ys left.1 right.1 (grind (arith, found_front, none_at)))
    where
      none_at : (k : K) (x : X) (xs : List X) → list_all (before x) xs ≡ true → is_keyed k x ≡ true
          → find (is_keyed k) xs ≡ None
      none_at k x xs h e = grind (arith, same-eq (key x) k e, find_none, none_from_all, list_all_weaker)
