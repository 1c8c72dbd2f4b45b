-- What is kept in table entries is seen in order, and a change of one entry is a change of what is seen.
use Rattle.cf_lists.proofs.Imports.{◌≡◌, ◌≢◌, ℕ, zero, suc, ◌<◌, ◌==◌, Bool, true, false, not, List, [], ◌∷◌, filter, length, get_or, set, refl, sym, ap, ◌∙◌, arith, list_all, eqb-true, eq-eqb, not-true, false≢true, append-nil, get_or-set_same, get_or-set_other, filter-append, pairwise, is_keyed, in_turn, arranged, joined, AreAtHome, IsKeyOrder}
use Rattle.cf_lists.proofs.FilterLaws.{filter_none, none_from_all, list_all_weaker, list_all_always}
use Rattle.cf_lists.proofs.{InsertionLaws.filter-insertion_out, EntryPlaceLaws.filter-insertion_ahead}
use Rattle.cf_lists.proofs.{PairwiseLaws.FindsPlace, PairwiseLaws.pairwise-insertion, TieLaws.ordered_filters}

-- ---- one entry of all

joined_out : {X : Type 0} (p : X → Bool) (bins : List (List X))
    → ((j : ℕ) → list_all (λ x. not (p x)) (get_or bins j []) ≡ true) → filter p (joined bins) ≡ []
unfolding joined
joined_out p [] h = refl
joined_out p (bin ∷ bins) h =
    let first = h 0 in
    grind (arith, filter-append, filter_none, none_from_all, first, joined_out p bins (λ j. h (suc j)))

-- what passes lies in one entry
joined_home : {X : Type 0} (p : X → Bool) (at : ℕ → X → Bool) (i : ℕ) (bins : List (List X))
    → ((j : ℕ) → list_all (at j) (get_or bins j []) ≡ true)
    → ((j : ℕ) (x : X) → j ≢ i → at j x ≡ true → p x ≡ false) → filter p (joined bins) ≡ filter p (get_or bins i [])
unfolding joined
joined_home p at i [] h out = refl
joined_home p at zero (bin ∷ bins) h out =
    let others = joined_out p bins (λ j. list_all_weaker (at (suc j)) (λ x. not (p x))
    (λ x e. ap not (out (suc j) x (λ z. cc) e)) (get_or bins j []) (h (suc j))) in
    grind (arith, filter-append, others, append-nil)
joined_home p at (suc i) (bin ∷ bins) h out =
    let none = filter_none p bin (none_from_all p bin (list_all_weaker (at 0) (λ x. not (p x))
    (λ x e. ap not (out 0 x (λ z. cc) e)) bin (h 0))) in
    grind (arith, filter-append, none, joined_home p (λ j. at (suc j)) i bins (λ j. h (suc j)) (grind arith))

module _ {X K : Type 0} (key : X → K) (same before : K → K → Bool) (slot : K → ℕ) (is : IsKeyOrder same before) where
  -- ---- the order

  finds_place : (x : X) → FindsPlace (in_turn key before) (λ y. before (key y) (key x)) (λ y. true) x
  finds_place x = grind (arith, not-true)

  pub arranged_in_turn : (xs : List X) → pairwise (in_turn key before) (arranged key before xs) ≡ true
  unfolding arranged
  arranged_in_turn [] = refl
  arranged_in_turn (x ∷ xs) = pairwise-insertion _ (λ y. before (key y) (key x)) (λ y. true)
      x _ (finds_place x) (list_all_always (λ y. true) (λ y. refl) (arranged key before xs)) (arranged_in_turn xs)

  -- of one key none stands before another
  alike : (k : K) (x y : X) → same (key x) k ≡ true → same (key y) k ≡ true → before (key y) (key x) ≡ false
  alike k x y e f = grind arith

  pub keyed-arranged : (k : K) (xs : List X)
      → filter (is_keyed key same k) (arranged key before xs) ≡ filter (is_keyed key same k) xs
  unfolding arranged
  keyed-arranged k [] = refl
  keyed-arranged k (x ∷ xs) = grind (arith, filter-insertion_ahead, alike, filter-insertion_out, keyed-arranged k xs)

  -- ---- what is seen of a key lies in its entry

  pub keyed_home : (k : K) (bins : List (List X)) → AreAtHome key slot bins → filter (is_keyed key same k)
      (arranged key before (joined bins)) ≡ filter (is_keyed key same k) (get_or bins (slot k) [])
  keyed_home k bins h = keyed-arranged k (joined bins) ∙ joined_home
      (is_keyed key same k) (λ j x. slot (key x) == j) (slot k) bins h (grind (arith, eqb-true, false≢true))

  -- ---- one entry changes

  pub home_kept : (i : ℕ) (bins : List (List X)) (bin : List X) → AreAtHome key slot bins → i < length bins
      → list_all (λ x. slot (key x) == i) bin ≡ true → AreAtHome key slot (set bins i bin)
  home_kept i bins bin h within there j =
      grind (arith, eqb-true, get_or-set_same, get_or-set_other, false≢true, eq-eqb)

  -- it is enough that the entry agrees of each of its keys, and that nothing changes of others
  pub changed : (i : ℕ) (bins : List (List X)) (bin ys : List X)
      → AreAtHome key slot bins → i < length bins → list_all (λ x. slot (key x) == i) bin ≡ true
      → ((k : K) → slot k ≡ i → filter (is_keyed key same k) bin ≡ filter (is_keyed key same k) ys) → ((k : K) → slot
      k ≢ i → filter (is_keyed key same k) (arranged key before (joined bins)) ≡ filter (is_keyed key same k) ys)
      → pairwise (in_turn key before) ys ≡ true → arranged key before (joined (set bins i bin)) ≡ ys
  changed i bins bin ys h within there here others turn = ordered_filters key same (λ x y. before (key x) (key y))
      is.itself (λ x y. is.ties (key x) (key y)) (arranged key before (joined (set bins i bin)))
      ys (arranged_in_turn _) turn (λ k. keyed_home k _ (home_kept i _ _ h within there) ∙ go k (slot k == i) refl)
    where
      go : (k : K) (b : Bool) → (slot k == i) ≡ b
          → filter (is_keyed key same k) (get_or (set bins i bin) (slot k) []) ≡ filter (is_keyed key same k) ys
      go k true e = grind (arith, eqb-true, get_or-set_same)
      go k false e = grind (arith, false≢true, eq-eqb, get_or-set_other, keyed_home)

  -- what is seen of a key of this entry
  pub seen : (k : K) (i : ℕ) (bins : List (List X)) → AreAtHome key slot bins → slot k ≡ i → filter
      (is_keyed key same k) (get_or bins i []) ≡ filter (is_keyed key same k) (arranged key before (joined bins))
  seen k i bins h at = rw (← at) (sym (keyed_home k bins h))
