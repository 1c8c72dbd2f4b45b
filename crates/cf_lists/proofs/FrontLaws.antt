-- The records up to one of them, and with that one.
use Rattle.cf_lists.proofs.Imports.{◌≡◌, ℕ, zero, suc, ◌+◌, ◌<◌, ◌≤◌, not, Bool, true, false, List, [], ◌∷◌, ◌++◌, length, drop, set, replicate, slice_get, Some, refl, sym, ap, arith, list_any, false≢true, eq-eqb, append_assoc, take_all, length-replicate, list_any-append, pairwise, all_records, records_of, is_id, ids_apart, front, emptied}
use Rattle.cf_lists.proofs.AllLaws.{none_behind, any_all, pairwise_back}
use Rattle.cf_lists.proofs.RecordSpotLaws.{any_at, any_there}
use Rattle.cf_lists.proofs.{TakeLaws.take_next, TakeLaws.split_next, IdLaws.once}

module _ {X : Type 0} where
  empties : (lists : List (List X)) → emptied lists ≡ replicate (length lists) []
  empties [] = refl
  empties (l ∷ ls) = ap (λ (r : List (List X)). [] ∷ r) (empties ls)

  none_in : (p : X → Bool) (lists : List (List X)) → list_any p (all_records (emptied lists)) ≡ false
  none_in p [] = refl
  none_in p (l ∷ ls) = none_in p ls

  pub front_none : (lists : List (List X)) → front 0 0 lists ≡ replicate (length lists) []
  front_none [] = refl
  front_none (l ∷ ls) = ap (λ (r : List (List X)). [] ∷ r) (empties ls)

  start : (lists : List (List X)) → front 0 0 lists ≡ emptied lists
  start [] = refl
  start (l ∷ ls) = refl

  pub front_next : (lists : List (List X)) (h n : ℕ) (x : X) → slice_get (records_of lists h) n ≡ Some x
      → set (front h n lists) h (records_of (front h n lists) h ++ x ∷ []) ≡ front h (n + 1) lists
  front_next [] h n x e = absurd (cc)
  front_next (l ∷ ls) zero n x e = ap (λ (r : List X). r ∷ emptied ls) (sym (take_next l n x e))
  front_next (l ∷ ls) (suc h) n x e = ap (λ (r : List (List X)). l ∷ r) (front_next ls h n x e)

  pub front_whole : (lists : List (List X)) (h n : ℕ) → h < length lists → length (records_of lists h) ≤ n
      → front h n lists ≡ front (h + 1) 0 lists
  front_whole [] h n lt long = absurd (omega (arith, lt))
  front_whole (l ∷ ls) zero n lt long = grind (arith, take_all, start)
  front_whole (l ∷ ls) (suc h) n lt long = grind (arith, front_whole ls h n (omega (arith, lt)) long)

  pub front_all : (lists : List (List X)) → front (length lists) 0 lists ≡ lists
  front_all [] = refl
  front_all (l ∷ ls) = ap (λ (r : List (List X)). l ∷ r) (front_all ls)

  pub front_long : (lists : List (List X)) (h n : ℕ) → length (front h n lists) ≡ length lists
  front_long [] h n = refl
  front_long (l ∷ ls) zero n = grind (arith, empties, length-replicate)
  front_long (l ∷ ls) (suc h) n = ap (λ (k : ℕ). suc k) (front_long ls h n)

  -- where a later one passes, no earlier one does
  none_before : (relation : X → X → Bool) (p : X → Bool) → ((x y : X) → p x ≡ true → relation x y ≡ true → not (p y)
      ≡ true) → (xs ys : List X) → pairwise relation (xs ++ ys) ≡ true → list_any p ys ≡ true → list_any p xs ≡ false
  none_before relation p once xs ys h e = grind (arith, false≢true, none_behind, once)

module _ {X : Type 0} (id_of : X → ℕ) where
  -- no record up to one has its id
  pub front_alone : (lists : List (List X)) (h n : ℕ) (x : X) → pairwise (ids_apart id_of) (all_records lists) ≡ true
      → slice_get (records_of lists h) n ≡ Some x
      → list_any (is_id id_of (id_of x)) (all_records (front h n lists)) ≡ false
  front_alone [] h n x a e = absurd (cc)
  front_alone (l ∷ ls) zero n x a e =
      let here = any_at (is_id id_of (id_of x)) (x ∷ drop (n + 1) l ++ all_records ls) 0 x in
      grind (arith, split_next l n x e, append_assoc, here, eq-eqb, none_before, once, list_any-append, none_in)
  front_alone (l ∷ ls) (suc h) n x a e =
      let rest = front_alone ls h n x (pairwise_back (ids_apart id_of) l (all_records ls) a) e in
      grind (arith, any_all, any_there, eq-eqb, none_before, once, list_any-append, rest)
