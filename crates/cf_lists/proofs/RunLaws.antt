-- The keys of a list in order: the element at a place is found by its key and its place among those of that key; where
-- the one element of a kind goes, one of its key goes.
use Rattle.cf_lists.proofs.Imports.{◌≡◌, ℕ, zero, suc, ◌+◌, ◌-◌, Bool, true, false, not, cond, List, [], ◌∷◌, Some, filter, map, slice_get, refl, ◌∙◌, subst, arith, list_all, prefix_len, and_parts, not-true, false≢true, insertion, pairwise, is_keyed, in_turn, IsKeyOrder, list_all-map, cases_Bool}
use Rattle.cf_lists.proofs.RecordSpotLaws.{all_at}

module _ {X K : Type 0} (key : X → K) (same before : K → K → Bool) (is : IsKeyOrder same before) where
  -- none of these is before a key
  none_before : (k : K) (xs : List X) → list_all (λ x. not (before (key x) k)) xs ≡ true
      → prefix_len (λ a. before a k) (map key xs) ≡ 0
  none_before k [] h = refl
  none_before k (x ∷ xs) h = grind (arith, not-true, and_parts)

  -- behind one that isn't before its key
  at_step : (s t : Bool) (x y : X) (ys : List X) (k : ℕ) → before (key y) (key x) ≡ s → same (key y) (key x) ≡ t
      → list_all (in_turn key before y) ys ≡ true → slice_get ys k ≡ Some x
      → slice_get (filter (is_keyed key same (key x)) ys) (k - prefix_len (λ a. before a (key x)) (map key ys)) ≡ Some x
      → slice_get (cond t (y ∷ filter (is_keyed key same (key x)) ys) (filter (is_keyed key same (key x)) ys))
      (suc k - cond s (1 + prefix_len (λ a. before a (key x)) (map key ys)) 0) ≡ Some x
  at_step true true x y ys k e f turn there ih = grind (arith, false≢true)
  at_step true false x y ys k e f turn there ih = grind arith
  at_step false false x y ys k e f turn there ih = grind (arith, not-true, all_at, false≢true)
  at_step false true x y ys k e f turn there ih =
      let none =
      none_before _ _ (subst (λ a. list_all (λ z. not (before (key z) a)) ys ≡ true) (is.equal _ _ f) turn) in
      grind (arith, none)

  pub at_run : (xs : List X) (k : ℕ) (x : X) → pairwise (in_turn key before) xs ≡ true → slice_get xs k ≡ Some x
      → slice_get (filter (is_keyed key same (key x)) xs) (k - prefix_len (λ a. before a (key x)) (map key xs)) ≡ Some x
  at_run [] k x h e = absurd (cc)
  at_run (y ∷ ys) zero x h e = grind arith
  at_run (y ∷ ys) (suc k) x h e = grind (arith, and_parts, at_step, at_run ys k x)

  -- ---- one comes

  -- a key before those that are no smaller
  first_again : (k : K) (ks : List K) → list_all (λ a. not (before a k)) ks ≡ true
      → insertion (λ a. not (before k a)) k ks ≡ k ∷ ks
  first_again k [] h = refl
  first_again k (a ∷ ks) h = grind (arith, and_parts, not-true, first_again k ks)

  -- where an element comes among those of its key, its key comes behind these
  pub order_insertion : (b : X → Bool) (x : X) → ((y : X) → b y ≡ true → before (key x) (key y) ≡ false)
      → ((y : X) → b y ≡ false → before (key y) (key x) ≡ false) → (xs : List X) → pairwise (in_turn key before)
      xs ≡ true → map key (insertion b x xs) ≡ insertion (λ a. not (before (key x) a)) (key x) (map key xs)
  order_insertion b x front stop [] h = refl
  order_insertion b x front stop (y ∷ ys) h =
      let rest = order_insertion b x front stop ys in
      grind (arith, and_parts, cases_Bool (b y), cases_Bool (before (key x) (key y)), false≢true, again, rest)
    where
      again : key y ≡ key x → list_all (in_turn key before y) ys ≡ true
          → insertion (λ a. not (before (key x) a)) (key x) (map key ys) ≡ key x ∷ map key ys
      again e turn = first_again (key x) (map key ys) (list_all-map (λ a. not (before a (key x))) key ys
          ∙ subst (λ a. list_all (λ z. not (before (key z) a)) ys ≡ true) e turn)
