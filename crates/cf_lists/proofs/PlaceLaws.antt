-- A place in a list in order.
use Rattle.cf_lists.proofs.Imports.{nat_lt, ◌≡◌, ℕ, zero, suc, ◌<◌, ◌≤◌, Bool, true, false, List, [], ◌∷◌, length, get_or, refl, sym, arith, list_all, prefix_len, IsPartitionPoint, IsPartitionedBy, and_parts, nat_tests, prefix_len_is, pairwise, AllPass-from_list_all}

pair_at : {X : Type 0} (relation : X → X → Bool) (xs : List X) (i j : ℕ) (d : X) → pairwise relation xs ≡ true
    → i < j → j < length xs → relation (get_or xs i d) (get_or xs j d) ≡ true
pair_at relation [] i j d h less within = absurd (omega (arith, within))
pair_at relation (x ∷ xs) i zero d h less within = absurd (omega (arith, less))
pair_at relation (x ∷ xs) zero (suc j) d h less within = grind (arith, and_parts, AllPass-from_list_all)
pair_at relation (x ∷ xs) (suc i) (suc j) d h less within =
    pair_at relation xs i j d (and_parts (list_all (relation x) xs) _ h).1 (omega (arith, less)) (omega (arith, within))

-- a test that what stands in front of one that passes it passes too
pub partitioned : {X : Type 0} (relation : X → X → Bool) (p : X → Bool) (xs : List X)
    → ((x y : X) → relation x y ≡ true → p y ≡ true → p x ≡ true) → pairwise relation xs ≡ true → IsPartitionedBy p xs
partitioned relation p xs front h i j d most within e = go (nat_lt i j) refl
  where
    go : (b : Bool) → nat_lt i j ≡ b → p (get_or xs i d) ≡ true
    go true f = front (get_or xs i d) (get_or xs j d) (pair_at _ _ i j d h (grind (arith, nat_tests)) within) e
    go false f = grind (arith, nat_tests)

pub partition_is : {X : Type 0} (p : X → Bool) (xs : List X) (n : ℕ) (d : X) → n ≤ length xs
    → IsPartitionPoint (λ y. p y ≡ true) (λ y. p y ≡ false) xs n → n ≡ prefix_len p xs
partition_is p xs n d within point = sym (prefix_len_is p xs
    n d within (λ k less. point.0 k d (omega arith) less) (λ less. point.1 n d (omega arith) less))
