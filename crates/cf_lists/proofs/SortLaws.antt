-- A sort of keys gives the keys of what is seen.
use Rattle.cf_lists.proofs.Imports.{◌≡◌, ℕ, suc, ◌+◌, ◌<◌, Bool, true, false, cond, List, [], ◌∷◌, filter, map, length, get_or, sum_by, refl, ◌∙◌, arith, list_all, IsPermutation, and_parts, and_from, not-true, sum_by-cons, sum_by-IsPermutation, insertion, pairwise, in_turn, arranged, IsKeyOrder, length-filter}
use Rattle.cf_lists.proofs.BinLaws.{arranged_in_turn, keyed-arranged}
use Rattle.cf_lists.proofs.FilterLaws.{list_all_weaker, list_all-filter_same, filter_swap}
use Rattle.cf_lists.proofs.{PairwiseLaws.pairwise-filter, TieLaws.ordered_filters, ViewLaws.mapped_pairs}

length_counts : {X : Type 0} (p : X → Bool) (xs : List X) → length (filter p xs) ≡ sum_by (λ x. cond (p x) 1 0) xs
length_counts p xs = length-filter p xs

module _ {K : Type 0} (same before : K → K → Bool) (is : IsKeyOrder same before) where
  -- as many of one key are the same
  alike : (k : K) (xs ys : List K) → list_all (λ x. same x k) xs ≡ true → list_all (λ x. same x k) ys ≡ true
      → length xs ≡ length ys → xs ≡ ys
  alike k [] [] h g e = refl
  alike k [] (y ∷ ys) h g e = absurd (omega (arith, e))
  alike k (x ∷ xs) [] h g e = absurd (omega (arith, e))
  alike k (x ∷ xs) (y ∷ ys) h g e = grind (arith, and_parts, alike k xs ys)

  -- neighbours in order
  pub neighbours : (xs : List K) → ((k : ℕ) (d : K) → k + 1 < length xs
      → before (get_or xs (k + 1) d) (get_or xs k d) ≡ false) → pairwise (in_turn (λ k. k) before) xs ≡ true
  neighbours [] h = refl
  neighbours (x ∷ []) h = refl
  neighbours (x ∷ y ∷ ys) h =
      let rest = neighbours (y ∷ ys) (λ k d lt. let e = h (suc k) d (omega (arith, lt)) in grind arith) in
      let first : before y x ≡ false = h 0 x (omega arith) in
      grind (arith, and_parts, and_from, list_all_weaker, not-true, first, rest)

  counted : {X : Type 0} (key : X → K) (f : K → ℕ) (b : X → Bool) (x : X) (ys : List X)
      → sum_by f (map key (insertion b x ys)) ≡ f (key x) + sum_by f (map key ys)
  counted key f b x [] = sum_by-cons f (key x) []
  counted key f b x (y ∷ ys) = grind (
    arith,
    sum_by-cons f (key x) (key y ∷ map key ys),
    sum_by-cons f (key y) (map key ys),
    sum_by-cons f (key y) (map key (insertion b x ys)),
    counted key f b x ys,
  )

  same_counts : {X : Type 0} (key : X → K) (f : K → ℕ) (xs : List X)
      → sum_by f (map key (arranged key before xs)) ≡ sum_by f (map key xs)
  unfolding arranged
  same_counts key f [] = refl
  same_counts key f (x ∷ xs) = grind (arith, counted, sum_by-cons, same_counts key f xs)

  -- the same keys in order are the keys of what is seen
  pub sorted_is : {X : Type 0} (key : X → K) (xs : List X) (ks : List K) → IsPermutation (map key xs) ks
      → pairwise (in_turn (λ k. k) before) ks ≡ true → ks ≡ map key (arranged key before xs)
  sorted_is key xs ks perm turn = ordered_filters (λ k. k) same before is.itself is.ties ks
      (map key (arranged key before xs)) turn (mapped_pairs key (in_turn (λ k. k) before) (arranged key before xs)
      ∙ arranged_in_turn key same before (λ k. 0) is xs) (λ k. alike k (filter (λ x. same x k) ks) (filter (λ x. same
      x k) (map key (arranged key before xs))) (list_all-filter_same (λ x. same x k) ks) (list_all-filter_same (λ x.
      same x k) (map key (arranged key before xs))) (grind (arith, length_counts, sum_by-IsPermutation, same_counts)))

module _ {X K : Type 0} (key : X → K) (same before : K → K → Bool) (is : IsKeyOrder same before) where
  -- what is seen of some
  pub arranged-filter : (q : X → Bool) (xs : List X)
      → arranged key before (filter q xs) ≡ filter q (arranged key before xs)
  arranged-filter q xs = ordered_filters key same (λ x y. before (key x) (key y)) is.itself
      (λ x y. is.ties (key x) (key y)) _ _ (arranged_in_turn key same before (λ k. 0) is (filter q xs)) (pairwise-filter
      _ q _ (arranged_in_turn key same before (λ k. 0) is xs)) (grind (arith, keyed-arranged, filter_swap))
