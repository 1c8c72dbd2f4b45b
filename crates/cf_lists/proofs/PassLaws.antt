-- What goes over all: a list whose elements go from its front to its end, one after another, and all entries.
use Rattle.cf_lists.proofs.Imports.{◌≡◌, ℕ, zero, suc, ◌+◌, ◌-◌, ◌<◌, ◌≤◌, Bool, true, cond, List, [], ◌∷◌, ◌++◌, filter, map, length, take, drop, get_or, refl, sym, ap, ◌∙◌, arith, list_all, append_assoc, append-nil, take-append-le, drop-append-le, map-append, length-map, length-append, drop_all, take_all, filter-append, list_all-map, Resource, Part, resource_before, arranged, joined, resource_by, are_apart, seen_in, IsTable, list_all-append}
use Rattle.std.proofs.lemmas.List.{length-drop}
use Rattle.cf_lists.proofs.SortLaws.{arranged-filter}
use Rattle.cf_lists.proofs.{FilterLaws.list_all-filter, FilterLaws.list_all_weaker, ImageLaws.map-insertion}
use Rattle.cf_lists.proofs.{PairwiseLaws.pairwise-filter, PairwiseLaws.pairwise-map, EntryKeyLaws.resource_order}

-- ---- one element after another

-- `over` goes over a list, and g is what an element leaves
pub turned : {X : Type 0} (over : List X → List X) (g : X → List X) → ((x : X) (xs : List X) → over
    (x ∷ xs) ≡ g x ++ over xs) → (xs new : List X) (m : ℕ) (d : X) (all : List X) → m < length xs → new ≡ drop 1
    xs ++ g (get_or xs 0 d) → drop (m + 1) xs ++ over (take (m + 1) xs) ≡ all → drop m new ++ over (take m new) ≡ all
turned over g step [] new m d all within put h = absurd (omega (arith, within))
turned over g step (x ∷ xs) new m d all within put h = grind (arith, drop-append-le, take-append-le, append_assoc)

-- a pass with a counter: so many elements are left of those that there were
module _ {X : Type 0} (over : List X → List X) (g : X → List X)
    (step : (x : X) (xs : List X) → over (x ∷ xs) ≡ g x ++ over xs) where
  pub pass_begins : (xs : List X) → drop (length xs - 0) xs ++ over (take (length xs - 0) xs) ≡ over xs
  pass_begins xs = grind (arith, drop_all, take_all)

  pub pass_goes : (n k : ℕ) (xs new : List X) (d : X) (all : List X) → k < n → n - k ≤ length xs
      → new ≡ drop 1 xs ++ g (get_or xs 0 d) → drop (n - k) xs ++ over (take (n - k) xs) ≡ all
      → drop (n - (k + 1)) new ++ over (take (n - (k + 1)) new) ≡ all
  pass_goes n k xs new d all less most put h = grind (arith, turned)

  pub pass_fits : (n k : ℕ) (xs new : List X) (d : X) → k < n → n - k ≤ length xs
      → new ≡ drop 1 xs ++ g (get_or xs 0 d) → n - (k + 1) ≤ length new
  pass_fits n k xs new d less most put = grind (arith, length-append, length-drop)

  pub pass_ends : over [] ≡ [] → (n k : ℕ) (xs all : List X) → n ≤ k
      → drop (n - k) xs ++ over (take (n - k) xs) ≡ all → xs ≡ all
  pass_ends none n k xs all past h = grind (arith, append-nil)

pub mapped_step : {X : Type 0} (f : X → X) (x : X) (xs : List X) → map f (x ∷ xs) ≡ (f x ∷ []) ++ map f xs
mapped_step f x xs = refl

pub filtered_step : {X : Type 0} (q : X → Bool) (x : X) (xs : List X)
    → filter q (x ∷ xs) ≡ cond (q x) (x ∷ []) [] ++ filter q xs
filtered_step q x xs = grind arith

-- ---- entry after entry

pub joined_next : {X : Type 0} (bins : List (List X)) (i : ℕ) (d : List X) → i < length bins
    → joined (drop i bins) ≡ get_or bins i d ++ joined (drop (i + 1) bins)
unfolding joined
joined_next [] i d h = absurd (omega (arith, h))
joined_next (x ∷ xs) zero d h = refl
joined_next (x ∷ xs) (suc i) d h = grind (arith, joined_next xs i d (omega (arith, h)))

pub joined_past : {X : Type 0} (bins : List (List X)) (i : ℕ) → length bins ≤ i → joined (drop i bins) ≡ []
unfolding joined
joined_past bins i past = rw (drop_all i bins past) refl

-- ---- all entries

module _ {X : Type 0} (part_of : X → Part) (bins : List (List X)) (order : List Resource)
    (is : IsTable part_of bins order) where
  over_at : (over : List X → List X) → over [] ≡ [] → (bs : List (List X)) (i : ℕ)
      → get_or (map over bs) i [] ≡ over (get_or bs i [])
  over_at over none [] i = sym none
  over_at over none (b ∷ bs) zero = refl
  over_at over none (b ∷ bs) (suc i) = over_at over none bs i

  -- ---- elements leave

  joined_filtered : (q : X → Bool) (bs : List (List X)) → joined (map (filter q) bs) ≡ filter q (joined bs)
  unfolding joined
  joined_filtered q [] = refl
  joined_filtered q (b ∷ bs) = grind (arith, filter-append, joined_filtered q bs)

  pub left_seen : (q : X → Bool) → seen_in part_of (map (filter q) bins) ≡ filter q (seen_in part_of bins)
  left_seen q = search (joined_filtered, arranged-filter, resource_order, arith)

  pub left_table : (q : X → Bool) → IsTable part_of (map (filter q) bins)
      (map (resource_by part_of) (seen_in part_of (map (filter q) bins)))
  left_table q = record {
    some = rw (length-map bins (filter q)) is.some;
    home = grind (arith, length-map, over_at, list_all-filter);
    one_each = rw (left_seen q) (pairwise-filter (are_apart part_of) q (seen_in part_of bins) is.one_each);
    listed = refl;
  }

  -- ---- elements change, and their parts don't

  module _ (f : X → X) (kept : (x : X) → part_of (f x) ≡ part_of x) where
    joined_changed : (bs : List (List X)) → joined (map (map f) bs) ≡ map f (joined bs)
    unfolding joined
    joined_changed [] = refl
    joined_changed (b ∷ bs) = grind (arith, map-append, joined_changed bs)

    arranged_changed : (xs : List X) → arranged (resource_by part_of) resource_before (map f xs)
        ≡ map f (arranged (resource_by part_of) resource_before xs)
    unfolding arranged
    arranged_changed [] = refl
    arranged_changed (x ∷ xs) = grind (arith, map-insertion, arranged_changed xs)

    pub all_changed_seen : seen_in part_of (map (map f) bins) ≡ map f (seen_in part_of bins)
    all_changed_seen = grind (arith, joined_changed, arranged_changed)

    pub all_changed_table : IsTable part_of (map (map f) bins)
        (map (resource_by part_of) (seen_in part_of (map (map f) bins)))
    all_changed_table =
        grind (arith, length-map, over_at, list_all-map, all_changed_seen, pairwise-map, list_all_weaker)

-- a test that all of an entry pass
pub all_next : {X : Type 0} (p : X → Bool) (bins : List (List X)) (i : ℕ) (bin : List X) (all : Bool) → i < length bins
    → bin ≡ get_or bins i bin → list_all p bin ≡ true → list_all p (joined (drop i bins)) ≡ all
    → list_all p (joined (drop (i + 1) bins)) ≡ all
all_next p bins i bin all within is passes h =
    cc (joined_next bins i bin within, list_all-append p bin (joined (drop (i + 1) bins)))

-- each entry in turn was changed
pub mapped_whole : {X : Type 0} (f : X → X) (xs ys : List X) (i : ℕ) → length ys ≤ i → length xs ≤ i
    → take i ys ≡ map f (take i xs) → ys ≡ map f xs
mapped_whole f xs ys i long whole h = grind (arith, take_all)

-- ---- counts over all entries

module _ {X : Type 0} (size : List X → ℕ) (parts : (xs ys : List X) → size (xs ++ ys) ≡ size xs + size ys) where
  pub counted_next : (bins : List (List X)) (i count n all : ℕ) (bin : List X) → i < length bins
      → bin ≡ get_or bins i bin → n ≡ size bin → count + size (joined (drop i bins)) ≡ all
      → (count + n) + size (joined (drop (i + 1) bins)) ≡ all
  counted_next bins i count n all bin within is e h =
      grind (arith, joined_next bins i bin within, is, parts bin (joined (drop (i + 1) bins)), e, h)

  pub counted_past : (bins : List (List X)) (i count all : ℕ) → length bins ≤ i → size [] ≡ 0
      → count + size (joined (drop i bins)) ≡ all → count ≡ all
  counted_past bins i count all past none h = grind (arith, joined_past)

pub length-kept_append : {X : Type 0} (p : X → Bool) (xs ys : List X)
    → length (filter p (xs ++ ys)) ≡ length (filter p xs) + length (filter p ys)
length-kept_append p xs ys = ap length (filter-append p xs ys) ∙ length-append (filter p xs) (filter p ys)
