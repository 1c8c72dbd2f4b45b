-- All records with one more, one less, or one in place of another: the records before it and behind it.
use Rattle.cf_lists.proofs.Imports.{arith, ◌≡◌, ℕ, Bool, true, false, cond, List, [], ◌∷◌, ◌++◌, map, find, slice_get, Some, refl, subst, suc, zero, list_all, and_parts, pairwise, all_records, records_of, records_without, is_id, replaced_by, ids_apart}
use Rattle.cf_lists.proofs.FilterLaws.{none_from_all, list_all_weaker, filter_all}
use Rattle.cf_lists.proofs.{IdLaws.once, IdLaws.unchanged}
pub use Rattle.cf_lists.proofs.AllLaws.{all_with}

module _ {X : Type 0} where
  -- each of them
  abbrev pub Every : (X → Type 0) → List X → Type 0
  Every P [] = Unit {0}
  Every P (x ∷ xs) = P x × Every P xs

  pub every_front : (P : X → Type 0) (xs ys : List X) → Every P (xs ++ ys) → Every P xs
  every_front P [] ys h = tt
  every_front P (x ∷ xs) ys h = (h.0, every_front P xs ys h.1)

  pub every_back : (P : X → Type 0) (xs ys : List X) → Every P (xs ++ ys) → Every P ys
  every_back P [] ys h = h
  every_back P (x ∷ xs) ys h = every_back P xs ys h.1

  pub every_one : (P : X → Type 0) (xs : List X) (k : ℕ) (x : X) → Every P xs → slice_get xs k ≡ Some x → P x
  every_one P [] k x h e = absurd (cc)
  every_one P (y ∷ ys) zero x h e = let same : y ≡ x = cc in subst P same h.0
  every_one P (y ∷ ys) (suc k) x h e = every_one P ys k x h.1 e

  pub every_at : (P : X → Type 0) (lists : List (List X)) (h k : ℕ) (x : X) → Every P (all_records lists)
      → slice_get (records_of lists h) k ≡ Some x → P x
  every_at P [] h k x all e = absurd (cc)
  every_at P (l ∷ ls) zero k x all e = every_one P l k x (every_front P l (all_records ls) all) e
  every_at P (l ∷ ls) (suc h) k x all e = every_at P ls h k x (every_back P l (all_records ls) all) e

  pub every_found : (P : X → Type 0) (q : X → Bool) (xs : List X) (x : X) → Every P xs → find q xs ≡ Some x → P x
  every_found P q [] x h e = absurd (cc)
  every_found P q (y ∷ ys) x h e = grind (arith, every_found P q ys x h.1)

module _ {X Y : Type 0} (f g : X → Y) where
  agree_each : (xs : List X) → Every (λ x. f x ≡ g x) xs → map f xs ≡ map g xs
  agree_each [] h = refl
  agree_each (x ∷ xs) h = cc (h.0, agree_each xs h.1)

  -- maps that agree on all records
  pub agree_all : (lists : List (List X)) → Every (λ x. f x ≡ g x) (all_records lists)
      → map (map f) lists ≡ map (map g) lists
  agree_all [] h = refl
  agree_all (l ∷ ls) h =
      grind (arith, agree_each, every_front, every_back, agree_all ls (every_back (λ x. f x ≡ g x) l _ h))

module _ {X : Type 0} (id_of : X → ℕ) where
  pub record IsSplit (id : ℕ) (xs : List X) (x : X) : Type 0 where
    pub front : List X
    pub back : List X
    pub whole : xs ≡ front ++ x ∷ back
    pub less : records_without id_of id xs ≡ front ++ back
    pub other : (new : X) → id_of new ≡ id → map (replaced_by id_of new) xs ≡ front ++ new ∷ back

  pub split_found : (id : ℕ) (xs : List X) (x : X) → pairwise (ids_apart id_of) xs ≡ true
      → find (is_id id_of id) xs ≡ Some x → IsSplit id xs x
  split_found id [] x h e = absurd (cc)
  split_found id (y ∷ ys) x h e =
      let parts = and_parts (list_all (ids_apart id_of y) ys) (pairwise (ids_apart id_of) ys) h in
      go (is_id id_of id y) refl e parts.0 (split_found id ys x parts.1)
    where
      go : (b : Bool) → is_id id_of id y ≡ b → cond b (Some y) (find (is_id id_of id) ys) ≡ Some x
          → list_all (ids_apart id_of y) ys ≡ true
          → (find (is_id id_of id) ys ≡ Some x → IsSplit id ys x) → IsSplit id (y ∷ ys) x
      go true t e apart rest = grind (arith, list_all_weaker, once, none_from_all, filter_all, unchanged)
      go false t e apart rest =
          let r = rest e in
          record { front = y ∷ r.front; back = r.back; whole = grind arith; less = grind arith; other = grind arith }
