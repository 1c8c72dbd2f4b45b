-- Lists whose elements have keys of their own.
use Rattle.cf_lists.proofs.Imports.{◌≡◌, ℕ, ◌+◌, Bool, true, false, not, List, [], ◌∷◌, ◌++◌, map, Some, None, length, filter, find, sum_by, position, nat_lt, refl, ap, subst, arith, list_any, list_all, position_or_len, remove, and_parts, not-true, false≢true, lt-ltb, nat_tests, filter_agree, sum_by-cons, pairwise, shortest_prefix}
use Rattle.cf_lists.proofs.PairwiseLaws.{pairwise-filter}
use Rattle.cf_lists.proofs.FilterLaws.{next, filter_all, filter-filter, find-filter, list_all-filter, list_all_always, none_from_all, all_from_none, list_all_weaker}

-- something passes exactly where its place is within the list
pub any_is_placed : {X : Type 0} (p : X → Bool) (xs : List X) → list_any p xs ≡ nat_lt (position_or_len p xs)
    (length xs)
any_is_placed p [] = refl
any_is_placed p (x ∷ xs) = grind (arith, lt-ltb, nat_tests, any_is_placed p xs)

-- no place, and nothing passes
pub none_placed : {X : Type 0} (p : X → Bool) (xs : List X) → position p xs ≡ None → list_any p xs ≡ false
none_placed p xs h = grind (arith, any_is_placed)

remove_later : {X : Type 0} (x : X) (xs : List X) (i : ℕ) → remove (x ∷ xs) (1 + i) ≡ x ∷ remove xs i
remove_later x xs i = rw (next i) refl

module _ {X K : Type 0} (key : X → K) (same : K → K → Bool)
    (same-eq : (a b : K) → same a b ≡ true → a ≡ b) (same-refl : (a : K) → same a a ≡ true) where
  -- keyed by this key; two keys apart
  abbrev pub is_keyed : K → X → Bool
  is_keyed k x = same (key x) k

  abbrev pub apart : X → X → Bool
  apart x y = not (same (key x) (key y))

  pub same_sym : (a b : K) → same a b ≡ false → same b a ≡ false
  same_sym a b h = grind (arith, false≢true)

  -- the elements behind one have other keys
  pub none_later : (x : X) (xs : List X) → pairwise apart (x ∷ xs) ≡ true → list_any (is_keyed (key x)) xs ≡ false
  none_later x xs u = grind (arith, none_from_all, list_all_weaker, same_sym, not-true, and_parts)

  pub later_apart : (x : X) (xs : List X) → pairwise apart (x ∷ xs) ≡ true → pairwise apart xs ≡ true
  later_apart x xs u = (and_parts (list_all (apart x) xs) (pairwise apart xs) u).1

  -- where one has the key, those behind it don't
  none_behind : (k : K) (x : X) (xs : List X) → pairwise apart (x ∷ xs) ≡ true → same (key x) k ≡ true
      → list_any (is_keyed k) xs ≡ false
  none_behind k x xs u e = subst (λ n. list_any (is_keyed n) xs ≡ false) (same-eq (key x) k e) (none_later x xs u)

  remove_keyed : (k : K) (xs : List X) → pairwise apart xs ≡ true → list_any (is_keyed k) xs ≡ true
      → remove xs (position_or_len (is_keyed k) xs) ≡ filter (λ y. not (is_keyed k y)) xs
  remove_keyed k [] u h = absurd (false≢true h)
  remove_keyed k (x ∷ xs) u h = grind (
    arith,
    later_apart,
    filter_all,
    all_from_none,
    none_behind,
    remove_later,
    remove_keyed k xs (later_apart x xs u),
  )

  pub remove_placed : (k : K) (xs : List X) (i : ℕ) → pairwise apart xs ≡ true → position (is_keyed k) xs ≡ Some i
      → remove xs i ≡ filter (λ y. not (is_keyed k y)) xs
  remove_placed k xs i u h = grind (arith, remove_keyed, any_is_placed)

  -- ---- lengths and sums without the one with a key

  pub sum_by_without : (f : X → ℕ) (k : K) (xs : List X) (y : X) → pairwise apart xs ≡ true
      → find (is_keyed k) xs ≡ Some y → sum_by f (filter (λ z. not (is_keyed k z)) xs) + f y ≡ sum_by f xs
  sum_by_without f k [] y u h = absurd (cc)
  sum_by_without f k (x ∷ xs) y u h =
      grind (arith, filter_all, all_from_none, none_behind, sum_by-cons, sum_by_without f k xs y (later_apart x _ u))

  pub length_without : (k : K) (xs : List X) (y : X) → pairwise apart xs ≡ true → find (is_keyed k) xs ≡ Some y
      → length (filter (λ z. not (is_keyed k z)) xs) + 1 ≡ length xs
  length_without k [] y u h = absurd (cc)
  length_without k (x ∷ xs) y u h =
      grind (arith, later_apart, filter_all, all_from_none, none_behind, length_without k xs y)

  -- ---- without several keys

  abbrev pub is_among : List K → K → Bool
  is_among ks k = list_any (λ j. same j k) ks

  abbrev pub spared : List K → List X → List X
  spared ks xs = filter (λ x. not (is_among ks (key x))) xs

  -- each of these is the one that is found by its key
  abbrev pub AllFound : List X → List X → Type 0
  AllFound [] xs = Unit {0}
  AllFound (v ∷ vs) xs = (find (is_keyed (key v)) xs ≡ Some v) × AllFound vs xs

  pub found_without : (v : X) (vs xs : List X) → list_all (apart v) vs ≡ true → AllFound vs xs
      → AllFound vs (filter (λ x. not (is_keyed (key v) x)) xs)
  found_without v [] xs e h = tt
  found_without v (w ∷ ws) xs e h = grind (arith, and_parts, find-filter, same_sym, not-true, found_without v ws xs)

  -- the first key goes, and then the others
  spared-cons : (k : K) (ks : List K) (xs : List X) → spared ks (filter (λ x. not (is_keyed k x)) xs) ≡ spared
      (k ∷ ks) xs
  spared-cons k ks xs = grind (arith, filter-filter, filter_agree)

  spared-nil : (xs : List X) → spared [] xs ≡ xs
  spared-nil xs = grind (arith, filter_all, list_all_always)

  pub sum_by_spared : (f : X → ℕ) (vs xs : List X) → pairwise apart xs ≡ true
      → pairwise apart vs ≡ true → AllFound vs xs → sum_by f (spared (map key vs) xs) + sum_by f vs ≡ sum_by f xs
  sum_by_spared f [] xs u w h = rw (spared-nil xs) (omega arith)
  sum_by_spared f (v ∷ vs) xs u w h =
      let later = and_parts (list_all (apart v) vs) (pairwise apart vs) w in
      let ih = sum_by_spared f vs (filter (λ x. not (is_keyed (key v) x)) xs) (pairwise-filter _ _ xs u) later.1
      (found_without v vs xs later.0 h.1) in
      let one = sum_by_without f (key v) xs v u h.0 in
      rw (← spared-cons (key v) (map key vs) xs) (omega (arith, ih, one, sum_by-cons f v vs))

  pub length_spared : (vs xs : List X) → pairwise apart xs ≡ true → pairwise apart vs ≡ true → AllFound vs xs
      → length (spared (map key vs) xs) + length vs ≡ length xs
  length_spared [] xs u w h = rw (spared-nil xs) (omega arith)
  length_spared (v ∷ vs) xs u w h =
      let later = and_parts (list_all (apart v) vs) (pairwise apart vs) w in
      let ih = length_spared vs (filter (λ x. not (is_keyed (key v) x)) xs) (pairwise-filter _ _ xs u) later.1
      (found_without v vs xs later.0 h.1) in
      rw (← spared-cons (key v) (map key vs) xs) (omega (arith, ih, length_without (key v) xs v u h.0))

  -- what has another key is found as before
  pub find-spared : (k : K) (ks : List K) (xs : List X) → is_among ks k ≡ false → find (is_keyed k) (spared ks xs) ≡
      find (is_keyed k) xs
  find-spared k ks xs h = grind (arith, find-filter)

  found_behind : (x : X) (ws xs : List X) → list_all (apart x) ws ≡ true → AllFound ws xs → AllFound ws (x ∷ xs)
  found_behind x [] xs e h = tt
  found_behind x (w ∷ ws) xs e h = grind (arith, and_parts, not-true, found_behind x ws xs)

  -- what a filter keeps is found
  pub found_filter : (p : X → Bool) (xs : List X) → pairwise apart xs ≡ true → AllFound (filter p xs) xs
  found_filter p [] u = tt
  found_filter p (x ∷ xs) u = grind (arith, and_parts, found_behind, list_all-filter, found_filter p xs)

  pub found_append : (vs ws xs : List X) → AllFound vs xs → AllFound ws xs → AllFound (vs ++ ws) xs
  found_append [] ws xs h k = k
  found_append (v ∷ vs) ws xs h k = (h.0, found_append vs ws xs h.1 k)

  pub found_prefix : (enough : List X → Bool) (vs xs : List X) → AllFound vs xs → AllFound (shortest_prefix enough vs)
      xs
  found_prefix enough [] xs h = tt
  found_prefix enough (v ∷ vs) xs h = grind (arith, found_prefix (λ prefix. enough (v ∷ prefix)) vs xs h.1)

  -- keys apart, in whatever order
  pub apart_sym : (x y : X) → apart x y ≡ true → apart y x ≡ true
  apart_sym x y h = ap not (same_sym (key x) (key y) (not-true (same (key x) (key y)) h))
