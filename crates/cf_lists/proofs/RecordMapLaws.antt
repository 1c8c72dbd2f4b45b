-- What a change of the lists is, seen through a map of the records that keeps ids.
use Rattle.cf_lists.proofs.Imports.{◌≡◌, ℕ, ◌-◌, List, [], ◌∷◌, length, map, find, take, drop, set, slice_get, option_map, refl, ap, ◌∙◌, arith, suc, list_any, remove, pairwise, map-append, length-map, map-set, all_records, records_of, is_id, has_id, record_of, spot_of, lists_with, lists_without, lists_replaced, replaced_by, ids_apart, with_records, IsLastFull, slice_get-map, slice_get_cases, position}
use Rattle.cf_lists.proofs.{ImageLaws.map-filtered, AllLaws.all-map, AllLaws.position-map}
use Rattle.std.proofs.lemmas.List.{take-map, drop-map}
use Rattle.cf_lists.proofs.{FilterLaws.list_any-map, ViewLaws.mapped_pairs}

module _ {X Y : Type 0} (f : X → Y) where
  pub records_of-map : (lists : List (List X)) (h : ℕ) → records_of (map (map f) lists) h ≡ map f (records_of lists h)
  records_of-map lists h = grind (arith, slice_get-map, slice_get_cases)

  pub get-map : (xs : List X) (k : ℕ) → slice_get (map f xs) k ≡ option_map f (slice_get xs k)
  get-map xs k = slice_get-map f xs k

  pub with-map : (h p : ℕ) (x : X) (lists : List (List X))
      → map (map f) (lists_with h p x lists) ≡ lists_with h p (f x) (map (map f) lists)
  with-map h p x lists = grind (arith, map-set, map-append, take-map, drop-map, records_of-map)

  pub removed-map : (h p : ℕ) (lists : List (List X)) → map (map f) (set lists
      h (remove (records_of lists h) p)) ≡ set (map (map f) lists) h (remove (records_of (map (map f) lists) h) p)
  removed-map h p lists = grind (arith, map-set, map-append, take-map, drop-map, records_of-map)

  pub length-map_of : (lists : List (List X)) (h : ℕ)
      → length (records_of (map (map f) lists) h) ≡ length (records_of lists h)
  length-map_of lists h = ap (λ (l : List Y). length l) (records_of-map lists h) ∙ length-map (records_of lists h) f

  -- the last header that has records
  pub last-map : (lists : List (List X)) (h : ℕ) → IsLastFull h lists → IsLastFull h (map (map f) lists)
  last-map lists h is = record {
    within = omega (arith, is.within, length-map lists (map f));
    full = omega (arith, is.full, length-map_of lists h);
    last = ap (λ (l : List (List Y)). all_records l) (drop-map (map f) (suc h) lists)
        ∙ all-map f (drop (suc h) lists) ∙ ap (λ (l : List X). map f l) is.last;
  }

  pub none-map : (lists : List (List X)) → all_records lists ≡ [] → all_records (map (map f) lists) ≡ []
  none-map lists e = all-map f lists ∙ ap (λ (l : List X). map f l) e

  -- without the last record of a header
  pub popped-map : (h : ℕ) (lists : List (List X)) → map (map f)
      (with_records lists h (take (length (records_of lists h) - 1) (records_of lists h))) ≡ with_records
      (map (map f) lists) h (take (length (records_of (map (map f) lists) h) - 1) (records_of (map (map f) lists) h))
  popped-map h lists = grind (arith, map-set, take-map, length-map_of, records_of-map)

  module _ (id_of : X → ℕ) (id_at : Y → ℕ) (same : (x : X) → id_at (f x) ≡ id_of x) where
    pub without-map : (id : ℕ) (lists : List (List X))
        → map (map f) (lists_without id_of id lists) ≡ lists_without id_at id (map (map f) lists)
    without-map id [] = refl
    without-map id (l ∷ ls) = grind (arith, map-filtered, without-map id ls)

    replaced_list : (x : X) (xs : List X)
        → map f (map (replaced_by id_of x) xs) ≡ map (replaced_by id_at (f x)) (map f xs)
    replaced_list x [] = refl
    replaced_list x (y ∷ ys) = grind (arith, replaced_list x ys)

    pub replaced-map : (x : X) (lists : List (List X))
        → map (map f) (lists_replaced id_of x lists) ≡ lists_replaced id_at (f x) (map (map f) lists)
    replaced-map x [] = refl
    replaced-map x (l ∷ ls) = grind (arith, replaced_list, replaced-map x ls)

    ids : (λ (x : X). id_at (f x)) ≡ id_of
    ids i x = same x i

    find-map : (id : ℕ) (xs : List X) → find (is_id id_at id) (map f xs) ≡ option_map f (find (is_id id_of id) xs)
    find-map id [] = refl
    find-map id (x ∷ xs) = grind (arith, find-map id xs)

    pub record-map : (id : ℕ) (lists : List (List X))
        → record_of id_at id (map (map f) lists) ≡ option_map f (record_of id_of id lists)
    record-map id lists = ap (λ l. find (is_id id_at id) l) (all-map f lists) ∙ find-map id (all_records lists)

    any_id-map : (id : ℕ) (xs : List X) → has_id id_at id (map f xs) ≡ has_id id_of id xs
    any_id-map id xs = list_any-map (is_id id_at id) f xs ∙ ap (λ (g : X → ℕ). list_any (is_id g id) xs) ids

    pub any-map : (id : ℕ) (lists : List (List X))
        → list_any (is_id id_at id) (all_records (map (map f) lists)) ≡ list_any (is_id id_of id) (all_records lists)
    any-map id lists = ap (λ l. list_any (is_id id_at id) l) (all-map f lists) ∙ any_id-map id (all_records lists)

    apart_each : (xs : List X) → pairwise (ids_apart id_at) (map f xs) ≡ pairwise (ids_apart id_of) xs
    apart_each xs = mapped_pairs f (ids_apart id_at) xs ∙ ap (λ (g : X → ℕ). pairwise (ids_apart g) xs) ids

    -- ids that are apart stay so
    pub apart-map : (lists : List (List X)) → pairwise (ids_apart id_at)
        (all_records (map (map f) lists)) ≡ pairwise (ids_apart id_of) (all_records lists)
    apart-map lists = ap (λ l. pairwise (ids_apart id_at) l) (all-map f lists) ∙ apart_each (all_records lists)

    pub spot-map : (id : ℕ) (lists : List (List X)) → spot_of id_at id (map (map f) lists) ≡ spot_of id_of id lists
    spot-map id lists =
        let heads = position-map (has_id id_at id) (map f) lists ∙ (λ i. position (λ l. any_id-map id l i) lists) in
        let places =
        λ (l : List X). position-map (is_id id_at id) f l ∙ ap (λ (g : X → ℕ). position (is_id g id) l) ids in
        grind (arith, heads, places, records_of-map)
