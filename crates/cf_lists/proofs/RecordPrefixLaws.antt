-- Where those that pass stand in front, one passes exactly where it is among that many.
use Rattle.cf_lists.proofs.Imports.{◌≡◌, ℕ, zero, suc, ◌+◌, Bool, true, false, not, ◌||◌, cond, nat_lt, List, [], ◌∷◌, slice_get, Some, refl, arith, list_all, prefix_len, and_parts, lt-ltb, nat_tests, pairwise, goes_first, cases_Bool}
use Rattle.cf_lists.proofs.RecordSpotLaws.{all_at}

module _ {X : Type 0} (q : X → Bool) where
  pub passes_first : (xs : List X) → pairwise (goes_first q) xs ≡ true → (k : ℕ) (x : X) → slice_get xs k ≡ Some x
      → q x ≡ nat_lt k (prefix_len q xs)
  passes_first [] h k x e = absurd (cc)
  passes_first (y ∷ ys) h zero x e = grind (arith, lt-ltb)
  passes_first (y ∷ ys) h (suc k) x e =
      let parts = and_parts (list_all (goes_first q y) ys) (pairwise (goes_first q) ys) h in
      go (q y) refl (all_at (goes_first q y) ys k x parts.0 e) (passes_first ys parts.1 k x e)
    where
      go : (b : Bool) → q y ≡ b → not (q x) || q y ≡ true → q x ≡ nat_lt k (prefix_len q ys)
          → q x ≡ nat_lt (suc k) (cond (q y) (1 + prefix_len q ys) 0)
      go true t first rest = grind (arith, nat_tests)
      go false t first rest = grind (arith, nat_tests, cases_Bool (q x))
