-- Lists of records with ids: one with an id is in one place at most.
use Rattle.cf_lists.proofs.Imports.{◌≡◌, ℕ, ◌<◌, ◌≤◌, Bool, true, false, not, ◌&&◌, ◌==◌, List, [], ◌∷◌, length, map, filter, take, drop, set, slice_get, refl, sym, ap, ◌∙◌, subst, arith, suc, list_any, list_all, position_or_len, remove, false≢true, eq-eqb, eqb-true, nat_tests, find-append, find_at, pairwise, all_records, is_id, has_id, record_of, lists_without, lists_with, lists_replaced, replaced_by, ids_apart, cond_both, cases_Bool}
use Rattle.cf_lists.proofs.FilterLaws.{next, map_same, any_is_found, find_none, none_filtered, list_all_weaker, filter_all, all_from_none}
use Rattle.cf_lists.proofs.KeyLaws.{any_is_placed, remove_placed}
use Rattle.cf_lists.proofs.PairwiseLaws.{pairwise_front, pairwise_weaker, pairwise-filter, pairwise-map}
use Rattle.cf_lists.proofs.AllLaws.{all_with, list_of, none_behind, any_all, option_left, all-filter, all-map, pairwise_middle, all-split, pairwise_back}
use Rattle.cf_lists.proofs.TableLaws.{set_later}

module _ {X : Type 0} (id_of : X → ℕ) where
  pub once : (id : ℕ) (x y : X) → (is_id id_of) id x ≡ true → (ids_apart id_of) x y ≡ true
      → not ((is_id id_of) id y) ≡ true
  once id x y h e = grind (arith, nat_tests)

  -- what changes the list that has the id alone changes that one list
  pub only_there : (id : ℕ) (f : List X → List X) → ((recs : List X) → (has_id id_of) id recs ≡ false → f recs ≡ recs)
      → (lists : List (List X)) → pairwise (ids_apart id_of) (all_records lists) ≡ true
      → list_any (has_id id_of id) lists ≡ true → set lists (position_or_len (has_id id_of id) lists)
      (f (list_of (position_or_len (has_id id_of id) lists) lists)) ≡ map f lists
  only_there id f same [] h e = absurd (false≢true e)
  only_there id f same (recs ∷ lists) h e =
      let rest = only_there id f same lists (pairwise_back (ids_apart id_of) recs _ h) in
      cond_both (not (has_id id_of id recs)) _ 0 (λ n. set (recs ∷ lists)
      n (f (list_of n (recs ∷ lists))) ≡ map f (recs ∷ lists)) (λ t. grind (arith, set_later, next, same, rest)) (λ t.
      let here : has_id id_of id recs ≡ true = grind (arith, cases_Bool (has_id id_of id recs)) in
      let none = sym (any_all (is_id id_of id) lists) ∙ none_behind _ _ (once id) _ _ h here in
      ap (λ l. f recs ∷ l) (sym (map_same (has_id id_of id) f lists none same)))

  pub found_there : (id : ℕ) (lists : List (List X)) → list_any (has_id id_of id) lists ≡ true
      → (record_of id_of) id lists ≡ slice_get (list_of (position_or_len (has_id id_of id) lists) lists)
      (position_or_len (is_id id_of id) (list_of (position_or_len (has_id id_of id) lists) lists))
  found_there id [] e = absurd (false≢true e)
  found_there id (recs ∷ lists) e =
      grind (arith, find-append, list_of, option_left, any_is_found, find_at, find_none, found_there id lists)

  pub apart-without : (id : ℕ) (lists : List (List X)) → pairwise (ids_apart id_of) (all_records lists) ≡ true
      → pairwise (ids_apart id_of) (all_records ((lists_without id_of) id lists)) ≡ true
  apart-without id lists h = ap (λ (l : List X). pairwise (ids_apart id_of) l) (all-filter (λ rec. not ((is_id id_of)
      id rec)) lists) ∙ pairwise-filter (ids_apart id_of) (λ rec. not ((is_id id_of) id rec)) (all_records lists) h

  same_id : (rec other : X) → id_of ((replaced_by id_of) rec other) ≡ (id_of other)
  same_id rec other = grind (arith, eqb-true)

  pub apart-changed : (rec : X) (lists : List (List X)) → pairwise (ids_apart id_of) (all_records lists) ≡ true
      → pairwise (ids_apart id_of) (all_records ((lists_replaced id_of) rec lists)) ≡ true
  apart-changed rec lists h = search (all-map, pairwise-map, same_id, arith)

  -- the first that has the id
  pub record IsPlaced (id : ℕ) (lists : List (List X)) (h p : ℕ) : Type 0 where
    pub any : list_any (has_id id_of id) lists ≡ true
    pub header_is : position_or_len (has_id id_of id) lists ≡ h
    pub header_in : h < length lists
    pub here : (has_id id_of) id (list_of h lists) ≡ true
    pub place_is : position_or_len (is_id id_of id) (list_of h lists) ≡ p
    pub place_in : p < length (list_of h lists)

  pub apart-list : (lists : List (List X)) (h : ℕ) → h < length lists
      → pairwise (ids_apart id_of) (all_records lists) ≡ true → pairwise (ids_apart id_of) (list_of h lists) ≡ true
  apart-list lists h lt apart = grind (
    arith,
    all-split lists h lt,
    pairwise_back (ids_apart id_of) (all_records (take h lists)),
    pairwise_front (ids_apart id_of) (list_of h lists) (all_records (drop (suc h) lists)),
  )

  pub record_there : (id : ℕ) (lists : List (List X)) (h p : ℕ) → IsPlaced id lists h p
      → (record_of id_of) id lists ≡ slice_get (list_of h lists) p
  record_there id lists h p is = grind (arith, found_there, list_of)

  only_here : (id : ℕ) (f : List X → List X) → ((recs : List X) → (has_id id_of) id recs ≡ false → f recs ≡ recs)
      → (lists : List (List X)) (h p : ℕ) → IsPlaced id lists h p
      → pairwise (ids_apart id_of) (all_records lists) ≡ true → set lists h (f (list_of h lists)) ≡ map f lists
  only_here id f same lists h p is apart = grind (arith, list_of, only_there)

  without_none : (id : ℕ) (recs : List X)
      → (has_id id_of) id recs ≡ false → filter (λ rec. not ((is_id id_of) id rec)) recs ≡ recs
  without_none id recs e = filter_all (λ rec. not ((is_id id_of) id rec)) recs (all_from_none (is_id id_of id) recs e)

  turned : (recs : List X) → pairwise (ids_apart id_of) recs ≡ true
      → pairwise (λ (rec other : X). not ((id_of rec) == (id_of other))) recs ≡ true
  turned recs h = grind (arith, pairwise_weaker, nat_tests)

  pub taken_there : (id : ℕ) (lists : List (List X)) (h p : ℕ) → IsPlaced id lists h p → pairwise (ids_apart id_of)
      (all_records lists) ≡ true → set lists h (remove (list_of h lists) p) ≡ (lists_without id_of) id lists
  taken_there id lists h p is apart =
      let recs = list_of h lists in
      ap (λ (l : List X). set lists h l) (remove_placed (λ (rec : X). (id_of rec)) (λ a b. a == b) eqb-true (λ a.
      eq-eqb a a refl) id recs p (turned recs (apart-list lists h is.header_in apart)) (grind (arith, any_is_placed)))
      ∙ only_here id (λ l. filter (λ rec. not ((is_id id_of) id rec)) l) (without_none id) lists h p is apart

  pub without_absent : (id : ℕ) (lists : List (List X)) → list_any (has_id id_of id) lists ≡ false
      → (lists_without id_of) id lists ≡ lists
  without_absent id lists e = map_same (has_id id_of id) _ lists e (without_none id)

  pub unchanged : (rec : X) (recs : List X) → (has_id id_of) (id_of rec) recs ≡ false
      → map (replaced_by id_of rec) recs ≡ recs
  unchanged rec recs e = map_same (is_id id_of (id_of rec)) (replaced_by id_of rec) recs e (grind arith)

  pub apart-with : (lists : List (List X)) (h p : ℕ) (rec : X) → h < length lists → p ≤ length (list_of h lists)
      → pairwise (ids_apart id_of) (all_records lists) ≡ true → list_any ((is_id id_of) (id_of rec))
      (all_records lists) ≡ false → pairwise (ids_apart id_of) (all_records (lists_with h p rec lists)) ≡ true
  apart-with lists h p rec lt within apart alone =
      let split = all_with h p rec lists lt in
      let apart_all : X → Bool = λ x. (ids_apart id_of) rec x && (ids_apart id_of) x rec in
      ap (λ l. pairwise (ids_apart id_of) l) split.3 ∙ pairwise_middle (ids_apart id_of) split.0 split.1 rec
      (ap (λ l. pairwise (ids_apart id_of) l) (sym split.2) ∙ apart) (ap (λ l. list_all apart_all l) (sym split.2)
      ∙ list_all_weaker (λ x. not ((is_id id_of) (id_of rec) x)) apart_all (grind (arith, nat_tests)) _
      (all_from_none ((is_id id_of) (id_of rec)) (all_records lists) alone))

  -- no record has an id that was taken out
  pub gone : (id : ℕ) (lists : List (List X)) (rec : X) → (is_id id_of) id rec ≡ true
      → list_any ((is_id id_of) (id_of rec)) (all_records ((lists_without id_of) id lists)) ≡ false
  gone id lists rec e = subst (λ n. list_any (λ (r : X). (id_of r) == n) (all_records ((lists_without id_of)
      id lists)) ≡ false) (sym (eqb-true (id_of rec) id e)) (ap (λ (l : List X). list_any (is_id id_of id) l)
      (all-filter (λ r. not ((is_id id_of) id r)) lists) ∙ none_filtered (is_id id_of id) (all_records lists))

  -- replaced once and once more
  replaced_again : (a b : X) → id_of a ≡ id_of b → (xs : List X)
      → map (replaced_by id_of b) (map (replaced_by id_of a) xs) ≡ map (replaced_by id_of b) xs
  replaced_again a b e [] = refl
  replaced_again a b e (x ∷ xs) = grind (arith, eq-eqb, replaced_again a b e xs)

  pub replaced_twice : (a b : X) → id_of a ≡ id_of b → (lists : List (List X))
      → lists_replaced id_of b (lists_replaced id_of a lists) ≡ lists_replaced id_of b lists
  replaced_twice a b e [] = refl
  replaced_twice a b e (l ∷ ls) = cc (replaced_again a b e l, replaced_twice a b e ls)

  -- the ids that are there stay
  same_ids : (a : X) (xs : List X) (id : ℕ)
      → list_any (is_id id_of id) (map (replaced_by id_of a) xs) ≡ list_any (is_id id_of id) xs
  same_ids a [] id = refl
  same_ids a (x ∷ xs) id = grind (arith, same_id, same_ids a xs id)

  pub any-replaced : (a : X) (lists : List (List X)) (id : ℕ) → list_any (is_id id_of id)
      (all_records (lists_replaced id_of a lists)) ≡ list_any (is_id id_of id) (all_records lists)
  any-replaced a lists id = search (all-map, same_ids, arith)
