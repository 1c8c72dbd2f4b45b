-- Table entries: what is seen of a resource lies in its entry, and a change of that entry is a change of what is seen.
use Rattle.cf_lists.proofs.Imports.{arith, ◌≡◌, ◌≢◌, ℕ, zero, suc, ◌-◌, ◌<◌, ◌≤◌, ◌==◌, Bool, true, false, not, ◌&&◌, List, [], ◌∷◌, ◌++◌, Option, Some, None, filter, find, map, length, get_or, set, slice_get, option_map, replicate, position, is_some, ◌+◌, refl, sym, ap, ◌∙◌, subst, list_any, list_all, prefix_len, remove, and_parts, and_from, eqb-true, eq-eqb, not-true, false≢true, length-replicate, length-set, get_or_default, Resource, Part, same_part, same_resource, resource_before, resource_up_to, same_resource-eq, same_resource-refl, same_part-eq, same_part-refl, same_part_comm, insertion, pairwise, in_turn, arranged, joined, AreAtHome, resource_by, is_on, is_part, are_apart, slot_in, seen_in, IsTable, slice_get-map, list_all-map, cases_Bool}
use Rattle.cf_lists.proofs.BinLaws.{arranged_in_turn, keyed_home, home_kept, seen}
use Rattle.cf_lists.proofs.FilterLaws.{list_all_weaker, list_all_always, list_all-filter, all_from_none, none_from_all, filter_none, filter_all, find-filter, filter_swap, filter_absorbed, any_is_found}
use Rattle.cf_lists.proofs.PairwiseLaws.{pairwise-filter, pairwise-insertion_any, pairwise-map}
use Rattle.cf_lists.proofs.ViewLaws.{by_key, length_in, mapped_pairs}
use Rattle.cf_lists.proofs.{EntryKeyLaws.resource_order, EntryPlaceLaws.insertion_behind, EntrySpotLaws.any_kept}
use Rattle.cf_lists.proofs.{KeyLaws.remove_placed, KeyLaws.length_without, InsertionLaws.list_all-insertion}
use Rattle.cf_lists.proofs.{OpLaws.filtered, OpLaws.mapped, OpLaws.inserted, RunLaws.at_run, RunLaws.order_insertion}

turned : (b : Bool) → not b ≡ false → b ≡ true
turned b e = grind (arith, cases_Bool b)

module _ {X : Type 0} (part_of : X → Part) where
  -- ---- what is seen

  pub in_order : (bins : List (List X))
      → pairwise (in_turn (resource_by part_of) resource_before) (seen_in part_of bins) ≡ true
  in_order bins = grind (arith, arranged_in_turn, resource_order)

  pub ordered : (bins : List (List X)) (order : List Resource) → IsTable part_of bins order
      → pairwise resource_up_to order ≡ true
  ordered bins order is =
      rw is.listed (mapped_pairs (resource_by part_of) resource_up_to (seen_in part_of bins) ∙ in_order bins)

  pub found : (r : Resource) (bins : List (List X)) (order : List Resource) → IsTable part_of bins order → filter
      (is_on part_of r) (get_or bins (slot_in (length bins) r) []) ≡ filter (is_on part_of r) (seen_in part_of bins)
  found r bins order is = sym (keyed_home (resource_by part_of)
      same_resource resource_before (slot_in (length bins)) resource_order r bins is.home)

  -- ---- parts

  part_on : (p : Part) (x : X) → is_part part_of p x ≡ true → is_on part_of p.0 x ≡ true
  part_on p x e = (and_parts (same_resource (part_of x).0 p.0) ((part_of x).1.0 == p.1.0) e).0

  pub part_resource : (p : Part) (x : X) → is_part part_of p x ≡ true → resource_by part_of x ≡ p.0
  part_resource p x e = same_resource-eq (part_of x).0 p.0 (part_on p x e)

  other_apart : (x y : X) (s : Bool) → same_resource (part_of y).0 (part_of x).0 ≡ false
      → same_resource (part_of x).0 (part_of y).0 ≡ s → not (s && ((part_of x).1.0 == (part_of y).1.0)) ≡ true
  other_apart x y s e f = grind (arith, same_resource-eq (part_of x).0 (part_of y).0, same_resource-refl, false≢true)

  module _ (bins : List (List X)) (order : List Resource) (is : IsTable part_of bins order) (i : ℕ) (d : List X)
      (within : i < length bins) where
    default : get_or bins i d ≡ get_or bins i []
    default = get_or_default bins i d [] within

    pub few_in : length (get_or bins i d) ≤ length order
    few_in = rw (default, is.listed) (length_in (resource_by part_of) resource_before i bins)

    lacks : (k : Resource) (b : Bool) → (slot_in (length bins) k == i) ≡ b
        → pairwise (are_apart part_of) (filter (is_on part_of k) (get_or bins i [])) ≡ true
    lacks k true e = rw (seen (resource_by part_of) same_resource resource_before (slot_in (length bins))
        resource_order k i bins is.home (eqb-true (slot_in (length bins) k) i e)) (grind (arith, pairwise-filter))
    lacks k false e =
        rw (filter_none (is_on part_of k) (get_or bins i []) (none_from_all (is_on part_of k) _ (list_all_weaker
        (λ x. slot_in (length bins) (part_of x).0 == i) (λ x. not (is_on part_of k x)) other _ (is.home i)))) refl
      where
        other : (x : X) → (slot_in (length bins) (part_of x).0 == i) ≡ true → not (is_on part_of k x) ≡ true
        other x g = grind (arith, false≢true, same_resource-eq (part_of x).0 k)

    pub entry_apart : pairwise (are_apart part_of) (get_or bins i d) ≡ true
    entry_apart = rw default (by_key (resource_by part_of) same_resource (are_apart part_of)
        same_resource-refl (λ x y e. other_apart x y _ e refl) (get_or bins i []) (λ k. lacks k _ refl))

    home_set : (new : List X) → list_all (λ x. slot_in (length bins) (part_of x).0 == i) new ≡ true
        → AreAtHome (resource_by part_of) (slot_in (length (set bins i new))) (set bins i new)
    home_set new h = grind (arith, length-set, home_kept, resource_order)

    -- ---- the entry of a part's resource

    module _ (p : Part) (at : i ≡ slot_in (length bins) p.0) where
      -- a search for something on the resource
      pub found_in : (q : X → Bool) → ((x : X) → q x ≡ true → is_on part_of p.0 x ≡ true)
          → find q (get_or bins i d) ≡ find q (seen_in part_of bins)
      found_in q on = rw default (sym (find-filter q _ on _) ∙ ap (find q) (seen (resource_by part_of) same_resource
          resource_before (slot_in (length bins)) resource_order p.0 i bins is.home (sym at)) ∙ find-filter q _ on _)

      pub kept_in : (q : X → Bool) → ((x : X) → q x ≡ true → is_on part_of p.0 x ≡ true)
          → filter q (get_or bins i d) ≡ filter q (seen_in part_of bins)
      kept_in q on = rw default (sym (narrowed q on (get_or bins i []))
          ∙ ap (filter q) (seen (resource_by part_of) same_resource resource_before (slot_in (length bins))
          resource_order p.0 i bins is.home (sym at)) ∙ narrowed q on (seen_in part_of bins))
        where
          narrowed : (q : X → Bool) → ((x : X) → q x ≡ true → is_on part_of p.0 x ≡ true) → (xs : List X)
              → filter q (filter (is_on part_of p.0) xs) ≡ filter q xs
          narrowed q on xs = filter_swap q (is_on part_of p.0) xs ∙ filter_absorbed (is_on part_of p.0) q on xs

      pub there_in : list_any
          (is_part part_of p) (get_or bins i d) ≡ list_any (is_part part_of p) (seen_in part_of bins)
      there_in = rw default (sym (any_kept _ _ (part_on p) _)
          ∙ ap (list_any (is_part part_of p)) (seen (resource_by part_of) same_resource resource_before
          (slot_in (length bins)) resource_order p.0 i bins is.home (sym at)) ∙ any_kept _ _ (part_on p) _)

      near : (x : X) → not (is_part part_of p x) ≡ false → slot_in (length bins) (part_of x).0 ≡ i
      near x e = ap (slot_in (length bins)) (part_resource p x (turned (is_part part_of p x) e)) ∙ sym at

      pub taken_seen : (new : List X) → new ≡ filter (λ x. not (is_part part_of p x)) (get_or bins i d)
          → seen_in part_of (set bins i new) ≡ filter (λ x. not (is_part part_of p x)) (seen_in part_of bins)
      taken_seen new e = rw (e, default) (filtered (resource_by part_of) same_resource resource_before
          (slot_in (length bins)) resource_order i bins is.home within (λ x. not (is_part part_of p x)) near)

      -- the same, where the order is that of what is seen
      pub taken_bins : (new : List X) → new ≡ filter (λ x. not (is_part part_of p x)) (get_or bins i d)
          → IsTable part_of (set bins i new) (map (resource_by part_of) (seen_in part_of (set bins i new)))
      taken_bins new e = grind (arith, length-set, home_set, default, list_all-filter, taken_seen, pairwise-filter)

    -- ---- one more: b says where it stands among all, and c where in its entry

    module _ (b c : X → Bool) (x : X) (at : i ≡ slot_in (length bins) (part_of x).0) (front : (y : X) → b y ≡ true
        → resource_before (part_of x).0 (part_of y).0 ≡ false) (stop : (y : X) → b y ≡ false → resource_before
        (part_of y).0 (part_of x).0 ≡ false) (agree : (y : X) → same_resource (part_of y).0 (part_of x).0 ≡ true
        → b y ≡ c y) (others : (y : X) → same_resource (part_of y).0 (part_of x).0 ≡ false → c y ≡ true)
        (new : List X) (put : new ≡ insertion c x (get_or bins i d)) where
      pub put_seen : seen_in part_of (set bins i new) ≡ insertion b x (seen_in part_of bins)
      put_seen = rw (put, default) (inserted (resource_by part_of) same_resource resource_before
          (slot_in (length bins)) resource_order i bins is.home within b c x (sym at) front stop agree others)

      pub put_table : list_any (is_part part_of (part_of x)) (seen_in part_of bins) ≡ false → IsTable
          part_of (set bins i new) (insertion (λ other. resource_up_to other (part_of x).0) (part_of x).0 order)
      put_table none = record {
        some = rw (length-set bins i new) is.some;
        home = home_set new (grind (arith, default, list_all-insertion, and_from, eq-eqb));
        one_each = rw put_seen (pairwise-insertion_any _ b x _ is.one_each
            (list_all_weaker (λ other. not (is_part part_of (part_of x) other)) (λ other. are_apart part_of
            x other && are_apart part_of other x) (grind (arith, and_from, same_part_comm))
            _ (all_from_none (is_part part_of (part_of x)) (seen_in part_of bins) none)));
        listed = rw (put_seen, is.listed) (sym (order_insertion (resource_by part_of) same_resource resource_before
            resource_order b x front stop (seen_in part_of bins) (in_order _)));
      }

    -- ---- elements change, and their parts don't

    module _ (f : X → X) (kept : (x : X) → part_of (f x) ≡ part_of x) (others : (x : X) → slot_in
        (length bins) (part_of x).0 ≢ i → f x ≡ x) (new : List X) (put : new ≡ map f (get_or bins i d)) where
      pub changed_seen : seen_in part_of (set bins i new) ≡ map f (seen_in part_of bins)
      changed_seen = rw (put, default) (mapped (resource_by part_of) same_resource resource_before
          (slot_in (length bins)) resource_order i bins is.home within f (λ x. ap (λ p. p.0) (kept x)) others)

      keeps_keys : (xs : List X) → map (resource_by part_of) xs ≡ map (resource_by part_of) (map f xs)
      keeps_keys [] = refl
      keeps_keys (x ∷ xs) = cc (kept x, keeps_keys xs)

      pub changed_table : IsTable part_of (set bins i new) order
      changed_table = grind (
        arith,
        length-set,
        home_set,
        default,
        list_all-map,
        list_all_weaker,
        changed_seen,
        pairwise-map,
        keeps_keys,
      )

  -- the order of what is seen serves
  pub of_seen : (bins : List (List X)) (order : List Resource) → IsTable part_of bins order
      → IsTable part_of bins (map (resource_by part_of) (seen_in part_of bins))
  of_seen bins order is = record { some = is.some; home = is.home; one_each = is.one_each; listed = refl }

  -- where a part goes, one element goes
  pub one_less : (p : Part) (xs : List X) → pairwise (are_apart part_of) xs ≡ true
      → list_any (is_part part_of p) xs ≡ true → length (filter (λ x. not (is_part part_of p x)) xs) + 1 ≡ length xs
  one_less p xs u any = grind (arith, any_is_found, go)
    where
      go : (o : Option X) → find (is_part part_of p) xs ≡ o → is_some o ≡ true
          → length (filter (λ x. not (is_part part_of p x)) xs) + 1 ≡ length xs
      go None e some = absurd (false≢true some)
      go (Some y) e some = length_without part_of same_part same_part-eq same_part-refl p xs y u e

  -- an element of another entry isn't this part
  pub not_here : (bins : List (List X)) (i : ℕ) (p : Part) → i ≡ slot_in (length bins) p.0 → (x : X)
      → slot_in (length bins) (part_of x).0 ≢ i → is_part part_of p x ≡ false
  not_here bins i p at x off = grind (arith, part_resource)

  -- ---- as the last of its resource

  pub last_front : (x y : X) → not (resource_before (part_of x).0 (part_of y).0) ≡ true
      → resource_before (part_of x).0 (part_of y).0 ≡ false
  last_front x y e = not-true _ e

  pub last_stop : (x y : X) → not (resource_before (part_of x).0 (part_of y).0) ≡ false
      → resource_before (part_of y).0 (part_of x).0 ≡ false
  last_stop x y e = resource_order.asym (part_of x).0 (part_of y).0 (turned _ e)

  pub last_agree : (x y : X) → same_resource (part_of y).0 (part_of x).0 ≡ true
      → not (resource_before (part_of x).0 (part_of y).0) ≡ true
  last_agree x y e = grind (arith, same_resource-eq (part_of y).0 (part_of x).0, resource_order.once (part_of x).0)

  pub last_put : (x : X) (bin : List X) → bin ++ x ∷ [] ≡ insertion (λ y. true) x bin
  last_put x bin = sym (insertion_behind (λ y. true) x bin (list_all_always (λ y. true) (λ y. refl) bin))

  -- ---- an element is cut out of its entry

  pub cut_out : (p : Part) (xs : List X) (i : ℕ) → pairwise (are_apart part_of) xs ≡ true
      → position (is_part part_of p) xs ≡ Some i → remove xs i ≡ filter (λ x. not (is_part part_of p x)) xs
  cut_out p xs i u h = remove_placed part_of same_part same_part-eq same_part-refl p xs i u h

  pub none_out : (p : Part) (xs : List X) → list_any (is_part part_of p) xs ≡ false
      → xs ≡ filter (λ x. not (is_part part_of p x)) xs
  none_out p xs h = sym (filter_all (λ x. not (is_part part_of p x)) xs (all_from_none (is_part part_of p) xs h))

  -- ---- the element at a place

  pub none_past : (bins : List (List X)) (order : List Resource) (k : ℕ) → IsTable part_of bins order
      → slice_get order k ≡ None → None ≡ slice_get (seen_in part_of bins) k
  none_past bins order k is h = grind (arith, slice_get-map)

  pub at_is : (bins : List (List X)) (order : List Resource) (k n : ℕ) (r : Resource) → IsTable part_of bins order
      → slice_get order k ≡ Some r → n ≡ prefix_len (λ other. resource_before other r) order → slice_get (filter
      (is_on part_of r) (get_or bins (slot_in (length bins) r) [])) (k - n) ≡ slice_get (seen_in part_of bins) k
  at_is bins order k n r is h e = grind (arith, found, go, slice_get-map)
    where
      go : (o : Option X) → slice_get (seen_in part_of bins) k ≡ o → option_map (resource_by part_of) o ≡ Some r
          → slice_get (filter (is_on part_of r) (seen_in part_of bins)) (k - prefix_len (λ other. resource_before
          other r) (map (resource_by part_of) (seen_in part_of bins))) ≡ slice_get (seen_in part_of bins) k
      go None f g = absurd (cc)
      go (Some x) f g =
          let same : resource_by part_of x ≡ r = cc in
          subst (λ a. slice_get (filter (is_on part_of a) (seen_in part_of bins)) (k - prefix_len
          (λ other. resource_before other a) (map (resource_by part_of) (seen_in part_of bins))) ≡ slice_get
          (seen_in part_of bins) k) same (at_run (resource_by part_of)
          same_resource resource_before resource_order (seen_in part_of bins) k x (in_order bins) f ∙ sym f)

  -- ---- entries without elements

  joined_none : (n : ℕ) → joined {X = X} (replicate n []) ≡ []
  unfolding joined
  joined_none zero = refl
  joined_none (suc n) = joined_none n

  pub seen_none : (n : ℕ) → seen_in part_of (replicate n []) ≡ []
  unfolding arranged
  seen_none n = rw (joined_none n) refl

  none_at : (n i : ℕ) → get_or (replicate n (let none : List X = [] in none)) i [] ≡ []
  none_at zero i = refl
  none_at (suc n) zero = refl
  none_at (suc n) (suc i) = none_at n i

  pub table_none : (n : ℕ) → 0 < n → IsTable part_of (replicate n []) []
  table_none n some = grind (arith, length-replicate, none_at, seen_none)
