-- What an entry loses, gets or changes is lost, got or changed in what is seen.
use Rattle.cf_lists.proofs.Imports.{arith, ◌≡◌, ◌≢◌, ℕ, ◌<◌, ◌==◌, Bool, true, false, List, [], ◌∷◌, filter, map, length, get_or, set, refl, sym, ap, ◌∙◌, list_all, and_parts, and_from, eq-eqb, not-true, false≢true, list_all-map, insertion, pairwise, is_keyed, in_turn, arranged, joined, AreAtHome, IsKeyOrder, cases_Bool}
use Rattle.cf_lists.proofs.EntryPlaceLaws.{filter-insertion_in, insertion_agree}
use Rattle.cf_lists.proofs.FilterLaws.{list_all_weaker, list_all_always, list_all-filter, filter_swap, filter_absorbed, list_all-filter_same}
use Rattle.cf_lists.proofs.InsertionLaws.{filter-insertion_out, list_all-insertion}
use Rattle.cf_lists.proofs.PairwiseLaws.{FindsPlace, pairwise-insertion, pairwise-filter, pairwise-map}
use Rattle.cf_lists.proofs.{ImageLaws.map-filtered, BinLaws.arranged_in_turn, BinLaws.changed, BinLaws.seen}

map_same : {X : Type 0} (p : X → Bool) (f : X → X) (xs : List X) → list_all p xs ≡ true
    → ((x : X) → p x ≡ true → f x ≡ x) → map f xs ≡ xs
map_same p f [] h same = refl
map_same p f (x ∷ xs) h same = grind (arith, and_parts, map_same p f xs)

module _ {X K : Type 0} (key : X → K) (same before : K → K → Bool) (slot : K → ℕ) (is : IsKeyOrder same before)
    (i : ℕ) (bins : List (List X)) (h : AreAtHome key slot bins) (within : i < length bins) where
  -- ---- elements of the entry leave

  stays : (q : X → Bool) (k : K) (x : X) (b : Bool)
      → (q x ≡ false → slot (key x) ≡ i) → slot k ≢ i → same (key x) k ≡ true → q x ≡ b → b ≡ true
  stays q k x b near off e f = grind (arith, cases_Bool b, is.equal (key x) k)

  pub filtered : (q : X → Bool) → ((x : X) → q x ≡ false → slot (key x) ≡ i) → arranged key
      before (joined (set bins i (filter q (get_or bins i [])))) ≡ filter q (arranged key before (joined bins))
  filtered q near =
      let view = arranged key before (joined bins) in
      let bin = get_or bins i [] in
      changed key same before slot is i bins (filter q bin) (filter q view) h within (grind (arith, list_all-filter))
      (λ k at. filter_swap _ q _ ∙ ap (filter q) (seen key same before slot is k i bins h at)
      ∙ filter_swap q _ _) (grind (arith, filter_swap, filter_absorbed, stays))
      (pairwise-filter _ q _ (arranged_in_turn key same before slot is (joined bins)))

  -- ---- elements of the entry change, and their keys don't

  keyed-map : (f : X → X) → ((x : X) → key (f x) ≡ key x) → (k : K) (xs : List X)
      → filter (is_keyed key same k) (map f xs) ≡ map f (filter (is_keyed key same k) xs)
  keyed-map f kept k xs = grind (arith, map-filtered)

  moved : (k : K) (x : X) → slot k ≢ i → same (key x) k ≡ true → slot (key x) ≢ i
  moved k x off e z = off (sym (ap slot (is.equal (key x) k e)) ∙ z)

  pub mapped : (f : X → X) → ((x : X) → key (f x) ≡ key x) → ((x : X) → slot (key x) ≢ i → f x ≡ x) → arranged
      key before (joined (set bins i (map f (get_or bins i [])))) ≡ map f (arranged key before (joined bins))
  mapped f kept same_else =
      let view = arranged key before (joined bins) in
      let bin = get_or bins i [] in
      changed key same before slot is i bins (map f bin) (map f view) h within (grind (
        arith,
        list_all-map,
        list_all_weaker,
      )) (λ k at. keyed-map f kept k _ ∙ ap (map f) (seen key same before slot is k i bins h at)
      ∙ sym (keyed-map f kept k _)) (λ k off. sym (keyed-map f kept k _ ∙ map_same _ f _ (grind (
        arith,
        list_all-filter_same,
      )) (λ x e. same_else x (moved k x off e)))) (grind (arith, pairwise-map, arranged_in_turn))

  -- ---- an element comes

  finds_place : (b : X → Bool) (x : X) → ((y : X) → b y ≡ true → before (key x) (key y) ≡ false)
      → ((y : X) → b y ≡ false → before (key y) (key x) ≡ false) → FindsPlace (in_turn key before) b (λ y. true) x
  finds_place b x front stop = grind (arith, not-true)

  past : (b : X → Bool) (x y z : X) (t : Bool) → ((y : X) → b y ≡ false → before (key y) (key x) ≡ false) → b
      y ≡ false → same (key y) (key x) ≡ false → before (key z) (key y) ≡ false → same (key z) (key x) ≡ t → t ≡ false
  past b x y z t stop e f g s = grind (arith, cases_Bool t)

  come_here : (b c : X → Bool) (x : X) → slot (key x) ≡ i → ((y : X) → b y ≡ false → before (key y) (key x) ≡ false)
      → ((y : X) → same (key y) (key x) ≡ true → b y ≡ c y) → ((y : X) → same (key y) (key x) ≡ false → c y ≡ true)
      → filter (is_keyed key same (key x)) (insertion c x (get_or bins i [])) ≡ filter
      (is_keyed key same (key x)) (insertion b x (arranged key before (joined bins)))
  come_here b c x at stop agree others =
      let p = is_keyed key same (key x) in
      filter-insertion_in (λ y z. true) p c x _ (is.itself (key x)) (grind (arith, false≢true))
      (every (get_or bins i [])) ∙ sym (insertion_agree p b c x _ (list_all-filter_same p _) agree)
      ∙ ap (insertion b x) (seen key same before slot is (key x) i bins h at) ∙ sym (filter-insertion_in _ p b x
      _ (is.itself (key x)) (grind (arith, past, not-true)) (arranged_in_turn key same before slot is (joined bins)))
    where
      every : (ys : List X) → pairwise (λ y z. true) ys ≡ true
      every [] = refl
      every (y ∷ ys) = grind (arith, and_from, list_all_always, every ys)

  come_step : (b c : X → Bool) (x : X) (k : K) (t : Bool) → same (key x) k ≡ t
      → filter (is_keyed key same (key x)) (insertion c x (get_or bins i [])) ≡ filter (is_keyed key same (key x))
      (insertion b x (arranged key before (joined bins))) → filter (is_keyed key same k) (get_or bins i []) ≡ filter
      (is_keyed key same k) (arranged key before (joined bins)) → filter (is_keyed key same k) (insertion
      c x (get_or bins i [])) ≡ filter (is_keyed key same k) (insertion b x (arranged key before (joined bins)))
  come_step b c x k true e here same_as = grind arith
  come_step b c x k false e here same_as = grind (arith, filter-insertion_out)

  apart_step : (x : X) (k : K) (t : Bool) → slot (key x) ≡ i → slot k ≢ i → same (key x) k ≡ t → t ≡ false
  apart_step x k t at off e = grind (arith, cases_Bool t, is.equal (key x) k)

  -- in the entry it is put behind all of other keys, and among those of its own as in what is seen
  pub inserted : (b c : X → Bool) (x : X) → slot (key x) ≡ i → ((y : X) → b y ≡ true → before (key x) (key y) ≡ false)
      → ((y : X) → b y ≡ false → before (key y) (key x) ≡ false) → ((y : X) → same (key y) (key x) ≡ true → b y ≡ c y)
      → ((y : X) → same (key y) (key x) ≡ false → c y ≡ true) → arranged key before
      (joined (set bins i (insertion c x (get_or bins i [])))) ≡ insertion b x (arranged key before (joined bins))
  inserted b c x at front stop agree others =
      let view = arranged key before (joined bins) in
      let bin = get_or bins i [] in
      changed key same before slot is i bins (insertion c x bin)
      (insertion b x view) h within (list_all-insertion (λ y. slot (key y) == i) c x _ ∙ and_from (slot (key x) == i)
      (list_all (λ y. slot (key y) == i) bin) (eq-eqb (slot (key x)) i at) (h i)) (λ k here. come_step b
      c x k _ refl (come_here b c x at stop agree others) (seen key same before slot is k i bins h here)) (grind
      (arith, filter-insertion_out, apart_step)) (pairwise-insertion _ b (λ y. true) x _ (finds_place b x front stop)
      (list_all_always (λ y. true) (λ y. refl) view) (arranged_in_turn key same before slot is (joined bins)))
