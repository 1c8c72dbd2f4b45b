-- The element at a place, found by its resource; and the last of all.
use Rattle.cf_lists.proofs.Imports.{◌≡◌, ℕ, zero, suc, ◌+◌, ◌-◌, ◌<◌, ◌≤◌, nat_lt, Bool, true, false, not, cond, drop, get_or, List, [], ◌∷◌, ◌++◌, Option, Some, None, is_some, filter, length, slice_get, refl, sym, ap, ◌∙◌, arith, list_all, and_parts, not-true, false≢true, lt-ltb, nat_tests, Resource, Part, same_resource, resource_before, same_resource-eq, same_resource-refl, insertion, pairwise, in_turn, arranged, joined, is_on, placed_on, later_of, last_of, seen_in, cases_Bool}
use Rattle.cf_lists.proofs.FilterLaws.{filter_none, none_from_all, list_all_weaker}
use Rattle.cf_lists.proofs.PassLaws.{joined_next, joined_past}
use Rattle.cf_lists.proofs.{InsertionLaws.list_all-insertion, EntryKeyLaws.resource_order, SortLaws.arranged-filter}
use Rattle.cf_lists.proofs.{ViewLaws.length_arranged, BinLaws.arranged_in_turn}
use Rattle.cf_lists.proofs.RecordSpotLaws.{all_at}

module _ {X : Type 0} (part_of : X → Part) where
  abbrev key : X → Resource
  key x = (part_of x).0

  abbrev is_before : Resource → X → Bool
  is_before r x = resource_before (key x) r

  abbrev count_before : Resource → List X → ℕ
  count_before r xs = length (filter (is_before r) xs)

  abbrev follows : X → X → Bool
  follows = in_turn key resource_before

  -- none of these is before a resource
  none_before : (r : Resource) (xs : List X) → list_all (λ x. not (is_before r x)) xs ≡ true → count_before r xs ≡ 0
  none_before r xs h = ap length (filter_none (is_before r) xs (none_from_all (is_before r) xs h))

  -- behind an element that isn't before a resource none is
  behind : (r : Resource) (y : X) (ys : List X) → is_before r y ≡ false → list_all (follows y) ys ≡ true
      → list_all (λ x. not (is_before r x)) ys ≡ true
  behind r y ys e h = list_all_weaker (follows y) (λ x. not (is_before r x))
      (λ z f. ap not (resource_order.follows r (key y) (key z) e (not-true (resource_before (key z) (key y)) f))) ys h

  -- one that is before a resource isn't on it
  off : (r : Resource) (y : X) (t : Bool) → is_before r y ≡ true → is_on part_of r y ≡ t → t ≡ false
  off r y t e f = grind (arith, resource_order.once r, same_resource-eq (key y) r, false≢true)

  none_past : (r : Resource) (y : X) (ys : List X) → is_before r y ≡ false → is_on part_of r y ≡ false
      → list_all (follows y) ys ≡ true → filter (is_on part_of r) ys ≡ []
  none_past r y ys e f h =
      filter_none _ ys (none_from_all _ ys (list_all_weaker (follows y) (λ z. not (is_on part_of r z))
      (λ z g. grind (arith, not-true, false≢true, same_resource-eq (key z) r, resource_order.ties r (key y))) ys h))

  -- ---- an element found by its resource stands at the place

  here_step : (r : Resource) (k : ℕ) (x y : X) (ys : List X) (s t : Bool) → is_before r y ≡ s
      → is_on part_of r y ≡ t → list_all (follows y) ys ≡ true
      → ((i : ℕ) → count_before r ys ≤ i → slice_get (filter (is_on part_of r) ys) (i - count_before r ys) ≡ Some x
      → slice_get ys i ≡ Some x) → length (cond s (y ∷ filter (is_before r) ys) (filter (is_before r) ys)) ≤ k
      → slice_get (cond t (y ∷ filter (is_on part_of r) ys) (filter (is_on part_of r) ys)) (k - length
      (cond s (y ∷ filter (is_before r) ys) (filter (is_before r) ys))) ≡ Some x → slice_get (y ∷ ys) k ≡ Some x
  here_step r k x y ys true true e f turn ih most h = absurd (false≢true (sym (off r y true e f)))
  here_step r zero x y ys true false e f turn ih most h = absurd (omega (arith, most))
  here_step r (suc i) x y ys true false e f turn ih most h = grind arith
  here_step r k x y ys false false e f turn ih most h = grind (arith, none_past)
  here_step r zero x y ys false true e f turn ih most h = grind arith
  here_step r (suc i) x y ys false true e f turn ih most h = grind (arith, none_before, behind)

  here : (r : Resource) (xs : List X) (k : ℕ) (x : X) → pairwise follows xs ≡ true → count_before r xs ≤ k
      → slice_get (filter (is_on part_of r) xs) (k - count_before r xs) ≡ Some x → slice_get xs k ≡ Some x
  here r [] k x turn most h = absurd (let gone : None ≡ Some x = h in cc)
  here r (y ∷ ys) k x turn most h =
      let parts = and_parts (list_all (follows y) ys) (pairwise follows ys) turn in
      here_step r k x y _ _ _ refl refl parts.0 (λ i m g. here r ys i x parts.1 m g) most h

  pub placed_here : (r : Resource) (xs : List X) (k : ℕ) (x : X) → pairwise follows xs ≡ true
      → placed_on part_of r k xs ≡ Some x → slice_get xs k ≡ Some x
  placed_here r xs k x turn h =
      grind (arith, here r xs k x turn, nat_tests, cases_Bool (nat_lt k (count_before r xs)))

  -- ---- the element at a place is found by its resource

  pub record IsFound (xs : List X) (k : ℕ) (x : X) : Type 0 where
    most : count_before (key x) xs ≤ k
    found : slice_get (filter (is_on part_of (key x)) xs) (k - count_before (key x) xs) ≡ Some x

  found_step : (x y : X) (ys : List X) (k : ℕ) (s t : Bool) → is_before (key x) y ≡ s → is_on part_of (key x) y ≡ t
      → follows y x ≡ true → list_all (follows y) ys ≡ true → IsFound ys k x
      → (length (cond s (y ∷ filter (is_before (key x)) ys) (filter (is_before (key x)) ys)) ≤ suc k)
      × (slice_get (cond t (y ∷ filter (is_on part_of (key x)) ys) (filter (is_on part_of (key x)) ys))
      (suc k - length (cond s (y ∷ filter (is_before (key x)) ys) (filter (is_before (key x)) ys))) ≡ Some x)
  found_step x y ys k true true e f ahead turn is = absurd (false≢true (sym (off (key x) y true e f)))
  found_step x y ys k true false e f ahead turn is = grind arith
  found_step x y ys k false false e f ahead turn is = absurd
      (false≢true (sym f ∙ resource_order.ties (key x) (key y) (not-true (resource_before (key x) (key y)) ahead) e))
  found_step x y ys k false true e f ahead turn is = grind (arith, none_before, behind)

  found_at : (xs : List X) (k : ℕ) (x : X) → pairwise follows xs ≡ true → slice_get xs k ≡ Some x → IsFound xs k x
  found_at [] k x turn e = absurd (let gone : None ≡ Some x = e in cc)
  found_at (y ∷ ys) zero x turn e =
      let same : y ≡ x =
      cc in grind (arith, same, and_parts, resource_order.once (key y), none_before, behind, same_resource-refl)
  found_at (y ∷ ys) (suc k) x turn e = grind (arith, and_parts, found_step, all_at, found_at ys k x)

  all_arranged : (p : X → Bool) (xs : List X) → list_all p (arranged key resource_before xs) ≡ list_all p xs
  unfolding arranged
  all_arranged p [] = refl
  all_arranged p (x ∷ xs) = grind (arith, list_all-insertion, all_arranged p xs)

  -- what none of all is placed at, is past the end
  pub none_placed_on : (bins : List (List X)) (k : ℕ) → list_all (λ x. not (is_some (placed_on
      part_of (key x) k (seen_in part_of bins)))) (joined bins) ≡ true → None ≡ slice_get (seen_in part_of bins) k
  none_placed_on bins k h = go (slice_get (seen_in part_of bins) k) refl
    where
      turn : pairwise follows (seen_in part_of bins) ≡ true
      turn = arranged_in_turn key same_resource resource_before (λ r. 0) resource_order (joined bins)

      missed : X → Bool
      missed z = not (is_some (placed_on part_of (key z) k (seen_in part_of bins)))

      go : (o : Option X) → slice_get (seen_in part_of bins) k ≡ o → None ≡ o
      go None e = refl
      go (Some x) e =
          let is = found_at _ k x turn e in
          let none = all_at missed _ k x (all_arranged missed _ ∙ h) e in
          let most = is.most in
          let found = is.found in
          absurd (grind (arith, nat_tests, most, found, none, false≢true))

  -- as many of all are before a resource
  pub counted_before : (r : Resource) (bins : List (List X))
      → length (filter (is_before r) (joined bins)) ≡ count_before r (seen_in part_of bins)
  counted_before r bins = sym (length_arranged key resource_before (filter (is_before r) (joined bins)))
      ∙ ap length (arranged-filter key same_resource resource_before resource_order (is_before r) (joined bins))

  pub length_seen : (bins : List (List X)) → length (joined bins) ≡ length (seen_in part_of bins)
  length_seen bins = sym (length_arranged key resource_before (joined bins))

  pub placed_none : (r : Resource) (bins : List (List X)) (k n : ℕ) → n ≡ length (filter (is_before r) (joined bins))
      → k < n → None ≡ placed_on part_of r k (seen_in part_of bins)
  placed_none r bins k n e less = grind (arith, counted_before, lt-ltb)

  pub placed_some : (r : Resource) (bins : List (List X)) (k n : ℕ) (xs : List X)
      → n ≡ length (filter (is_before r) (joined bins)) → n ≤ k → xs ≡ filter (is_on part_of r) (seen_in part_of bins)
      → slice_get xs (k - n) ≡ placed_on part_of r k (seen_in part_of bins)
  placed_some r bins k n xs e most f = grind (arith, counted_before, nat_tests)

  -- ---- the last

  pub later_assoc : (a b c : Option X)
      → later_of part_of (later_of part_of a b) c ≡ later_of part_of a (later_of part_of b c)
  later_assoc None b c = refl
  later_assoc (Some x) None c = refl
  later_assoc (Some x) (Some y) None = grind arith
  later_assoc (Some x) (Some y) (Some z) =
      let lower = resource_order.follows (key x) (key z) (key y) in
      let upper = resource_order.follows (key x) (key y) (key z) in
      let other = resource_order.asym (key z) (key y) in
      grind (arith, false≢true, lower, upper, other)

  pub last_append : (xs ys : List X)
      → last_of part_of (xs ++ ys) ≡ later_of part_of (last_of part_of xs) (last_of part_of ys)
  last_append [] ys = refl
  last_append (x ∷ xs) ys = search (later_assoc, last_append xs ys, arith)

  -- the last of a list in order is the last of all
  abbrev end_of : List X → Option X
  end_of [] = None
  end_of (x ∷ []) = Some x
  end_of (x ∷ y ∷ ys) = end_of (y ∷ ys)

  end_step : (b : X → Bool) (x y : X) (ys : List X) (s : Bool) → b y ≡ s → list_all (follows y) ys ≡ true
      → ((z : X) → b z ≡ resource_before (key z) (key x)) → end_of (insertion b x ys) ≡ later_of part_of (Some x)
      (end_of ys) → end_of (cond s (y ∷ insertion b x ys) (x ∷ y ∷ ys)) ≡ later_of part_of (Some x) (end_of (y ∷ ys))
  end_step b x y [] true e turn is ih = rw (sym (is y) ∙ e) refl
  end_step b x y [] false e turn is ih = rw (sym (is y) ∙ e) refl
  end_step b x y (z ∷ zs) true e turn is ih = grind arith
  end_step b x y (z ∷ zs) false e turn is ih = sym (stays z zs (behind (key x) y (z ∷ zs) (sym (is y) ∙ e) turn))
    where
      stays : (z : X) (ws : List X) → list_all (λ w. not (is_before (key x) w)) (z ∷ ws) ≡ true
          → later_of part_of (Some x) (end_of (z ∷ ws)) ≡ end_of (z ∷ ws)
      stays z [] h = grind (arith, and_parts, not-true)
      stays z (w ∷ ws) h = stays w ws (and_parts (not (is_before (key x) z)) _ h).1

  end_insertion : (x : X) (ys : List X) → pairwise follows ys ≡ true
      → end_of (insertion (λ y. resource_before (key y) (key x)) x ys) ≡ later_of part_of (Some x) (end_of ys)
  end_insertion x [] turn = refl
  end_insertion x (y ∷ ys) turn = grind (arith, and_parts, end_step, end_insertion x ys)

  end_arranged : (xs : List X) → last_of part_of xs ≡ end_of (arranged key resource_before xs)
  unfolding arranged
  end_arranged [] = refl
  end_arranged (x ∷ xs) = ap (later_of part_of (Some x)) (end_arranged xs) ∙ sym (end_insertion x (arranged
      key resource_before xs) (arranged_in_turn key same_resource resource_before (λ r. 0) resource_order xs))

  end_at : (xs : List X) → end_of xs ≡ slice_get xs (length xs - 1)
  end_at [] = refl
  end_at (x ∷ []) = refl
  end_at (x ∷ y ∷ ys) =
      let less : suc (suc (length ys)) - 1 ≡ suc (suc (length ys) - 1) = omega arith in
      end_at (y ∷ ys) ∙ sym (ap (λ i. slice_get (x ∷ y ∷ ys) i) less)

  pub last_seen : (bins : List (List X))
      → last_of part_of (joined bins) ≡ slice_get (seen_in part_of bins) (length (seen_in part_of bins) - 1)
  last_seen bins = end_arranged (joined bins) ∙ end_at (seen_in part_of bins)

  -- ---- entry after entry

  pub last_next : (bins : List (List X)) (i : ℕ) (bin : List X) (a new all : Option X) → i < length bins
      → bin ≡ get_or bins i bin → new ≡ later_of part_of a (last_of part_of bin) → later_of part_of a (last_of part_of
      (joined (drop i bins))) ≡ all → later_of part_of new (last_of part_of (joined (drop (i + 1) bins))) ≡ all
  last_next bins i bin a new all within is put h = cc (
    put,
    later_assoc a (last_of part_of bin) (last_of part_of (joined (drop (i + 1) bins))),
    last_append bin (joined (drop (i + 1) bins)),
    joined_next bins i bin within,
    is,
    h,
  )

  pub last_past : (bins : List (List X)) (i : ℕ) (a all : Option X) → length bins ≤ i
      → later_of part_of a (last_of part_of (joined (drop i bins))) ≡ all → a ≡ all
  last_past bins i a all past h = grind (arith, joined_past, past)

  pub last_more : (a new all : Option X) (x : X) (xs : List X) → new ≡ later_of part_of a (Some x)
      → later_of part_of a (last_of part_of (x ∷ xs)) ≡ all → later_of part_of new (last_of part_of xs) ≡ all
  last_more a new all x xs put h = grind (arith, later_assoc)
