-- The place of the one element that has a key.
use Rattle.cf_lists.proofs.Imports.{◌≡◌, ℕ, Bool, true, false, not, cond, List, [], ◌∷◌, Some, None, map, filter, position, get_or, set, refl, sym, ap, arith, list_any, position_or_len, false≢true, pairwise, cond_both}
use Rattle.cf_lists.proofs.FilterLaws.{map_same, any_is_found, find-filter}
use Rattle.cf_lists.proofs.KeyLaws.{any_is_placed, none_later, later_apart}
use Rattle.cf_lists.proofs.TableLaws.{set_later}

pub no_place : {X : Type 0} (p : X → Bool) (xs : List X) → list_any p xs ≡ false → None ≡ position p xs
no_place p xs h = grind (arith, any_is_placed)

placed_step : (b : Bool) (k i : ℕ) → cond b (Some k) None ≡ Some i → (b ≡ true) × (k ≡ i)
placed_step true k i h = (refl, cc)
placed_step false k i h = absurd (cc)

pub some_place : {X : Type 0} (p : X → Bool) (xs : List X) (i : ℕ) → position p xs ≡ Some i → true ≡ list_any p xs
some_place p xs i h = grind (arith, any_is_placed, placed_step)

-- a search among those that are kept, for what is kept
pub any_kept : {X : Type 0} (p q : X → Bool) → ((x : X) → p x ≡ true → q x ≡ true) → (xs : List X)
    → list_any p (filter q xs) ≡ list_any p xs
any_kept p q h xs = grind (arith, any_is_found, find-filter)

module _ {X K : Type 0} (key : X → K) (same : K → K → Bool)
    (same-eq : (a b : K) → same a b ≡ true → a ≡ b) (same-refl : (a : K) → same a a ≡ true) where
  set_keyed : (k : K) (f : X → X) (d : X) (xs : List X) → pairwise (λ x y. not (same (key x) (key y))) xs ≡ true → ((x
      : X) → same (key x) k ≡ false → f x ≡ x) → list_any (λ x. same (key x) k) xs ≡ true → set xs (position_or_len
      (λ x. same (key x) k) xs) (f (get_or xs (position_or_len (λ x. same (key x) k) xs) d)) ≡ map f xs
  set_keyed k f d [] u kept h = absurd (false≢true h)
  set_keyed k f d (x ∷ xs) u kept h =
      let rest = set_keyed k f d xs (later_apart key same same-eq same-refl x xs u) kept in
      cond_both (not (same (key x) k)) _ 0 (λ n. set (x ∷ xs) n (f (get_or (x ∷ xs) n d)) ≡ map f (x ∷ xs))
      (λ e. grind (arith, set_later, rest)) (λ e.
      let none : list_any (λ x. same (key x) k) xs ≡ false = grind (arith, none_later) in
      ap (λ l. f x ∷ l) (sym (map_same (λ x. same (key x) k) f xs none kept)))

  -- the one with the key changes
  pub set_placed : (k : K) (f : X → X) (d : X) (xs : List X) (i : ℕ)
      → pairwise (λ x y. not (same (key x) (key y))) xs ≡ true → ((x : X) → same (key x) k ≡ false → f x ≡ x)
      → position (λ x. same (key x) k) xs ≡ Some i → set xs i (f (get_or xs i d)) ≡ map f xs
  set_placed k f d xs i u kept h = grind (arith, placed_step, set_keyed, any_is_placed)

  -- none has the key
  pub map_placed : (k : K) (f : X → X) (xs : List X) → ((x : X) → same (key x) k ≡ false → f x ≡ x)
      → list_any (λ x. same (key x) k) xs ≡ false → xs ≡ map f xs
  map_placed k f xs kept h = sym (map_same (λ x. same (key x) k) f xs h kept)
