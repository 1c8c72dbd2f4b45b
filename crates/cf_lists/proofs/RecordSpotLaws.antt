-- A record with an id that stands somewhere: that is where it is found.
use Rattle.cf_lists.proofs.Imports.{◌≡◌, ℕ, ◌<◌, Bool, true, false, List, [], ◌∷◌, length, slice_get, Some, None, refl, arith, suc, zero, list_any, list_all, position_or_len, and_parts, or_right, false≢true, eq-eqb, eqb-true, pairwise, all_records, is_id, has_id, spot_of, ids_apart, slice_get_within}
use Rattle.cf_lists.proofs.IdLaws.{IsPlaced, once, apart-list}
use Rattle.cf_lists.proofs.{KeyLaws.any_is_placed, AllLaws.list_of, AllLaws.none_behind, AllLaws.any_all, AllLaws.pairwise_back, FilterLaws.next}

module _ {X : Type 0} where
  pub all_at : (p : X → Bool) (xs : List X) (k : ℕ) (x : X) → list_all p xs ≡ true → slice_get xs k ≡ Some x
      → p x ≡ true
  all_at p [] k x h e = absurd (cc)
  all_at p (y ∷ ys) zero x h e = grind (arith, and_parts)
  all_at p (y ∷ ys) (suc k) x h e = all_at p ys k x (and_parts (p y) (list_all p ys) h).1 e

  pub any_at : (p : X → Bool) (xs : List X) (k : ℕ) (x : X) → slice_get xs k ≡ Some x → p x ≡ true
      → list_any p xs ≡ true
  any_at p [] k x e t = absurd (cc)
  any_at p (y ∷ ys) zero x e t = grind arith
  any_at p (y ∷ ys) (suc k) x e t = or_right (p y) (list_any p ys) (any_at p ys k x e t)

  pub get_within : (xs : List X) (k : ℕ) (x : X) → slice_get xs k ≡ Some x → k < length xs
  get_within xs k x e = slice_get_within xs k x e

  pub header_within : (lists : List (List X)) (h k : ℕ) (x : X) → slice_get (list_of h lists) k ≡ Some x
      → h < length lists
  header_within [] h k x e = absurd (cc)
  header_within (l ∷ ls) zero k x e = omega arith
  header_within (l ∷ ls) (suc h) k x e = omega (arith, header_within ls h k x e)

  pub any_there : (p : X → Bool) (lists : List (List X)) (h k : ℕ) (x : X) → slice_get (list_of h lists) k ≡ Some x
      → p x ≡ true → list_any (λ recs. list_any p recs) lists ≡ true
  any_there p [] h k x e t = absurd (cc)
  any_there p (l ∷ ls) zero k x e t = let here = any_at p l k x e t in rw here refl
  any_there p (l ∷ ls) (suc h) k x e t = grind (arith, or_right, any_there p ls h k x e t)

module _ {X : Type 0} (id_of : X → ℕ) where
  first_is : (id : ℕ) (xs : List X) (p : ℕ) (x : X) → pairwise (ids_apart id_of) xs ≡ true → slice_get xs p ≡ Some x
      → id_of x ≡ id → position_or_len (is_id id_of id) xs ≡ p
  first_is id [] p x h e i = absurd (cc)
  first_is id (y ∷ ys) zero x h e i = grind (arith, eq-eqb)
  first_is id (y ∷ ys) (suc p) x h e i =
      grind (arith, and_parts, all_at, eq-eqb, eqb-true, false≢true, first_is id ys p x)

  header_is : (id : ℕ) (lists : List (List X)) (h p : ℕ) (x : X) → pairwise (ids_apart id_of) (all_records lists) ≡ true
      → slice_get (list_of h lists) p ≡ Some x → id_of x ≡ id → position_or_len (has_id id_of id) lists ≡ h
  header_is id [] h p x a e i = absurd (cc)
  header_is id (l ∷ ls) zero p x a e i = grind (arith, any_at, eq-eqb)
  header_is id (l ∷ ls) (suc h) p x a e i =
      let any = any_there (is_id id_of id) ls h p x e (eq-eqb (id_of x) id i) in
      grind (
        arith,
        none_behind,
        once,
        any_all,
        false≢true,
        next,
        header_is id ls h p x (pairwise_back (ids_apart id_of) l _ a) e i,
      )

  -- where records are apart, one that stands somewhere is the first with its id
  pub placed_at : (id : ℕ) (lists : List (List X)) (h p : ℕ) (x : X) → pairwise (ids_apart id_of)
      (all_records lists) ≡ true → slice_get (list_of h lists) p ≡ Some x → id_of x ≡ id → IsPlaced id_of id lists h p
  placed_at id lists h p x a e i =
      grind (arith, header_within, eq-eqb, any_there, header_is, any_at, list_of, first_is, apart-list, get_within)

  pub spot_there : (id : ℕ) (lists : List (List X)) (h p : ℕ) → IsPlaced id_of id lists h p
      → spot_of id_of id lists ≡ Some (h, p)
  spot_there id lists h p is = grind (arith, list_of, any_is_placed)

  pub no_spot : (id : ℕ) (lists : List (List X)) → list_any (has_id id_of id) lists ≡ false
      → spot_of id_of id lists ≡ None
  no_spot id lists a = grind (arith, any_is_placed)
