-- What is seen of table entries, and lists by key.
use Rattle.cf_lists.proofs.Imports.{◌≡◌, ℕ, zero, suc, ◌≤◌, Bool, true, false, cond, List, [], ◌∷◌, filter, map, length, get_or, refl, arith, list_all, and_parts, and_from, length-append, length-map, pairwise, is_keyed, arranged, joined, list_all-map}
use Rattle.cf_lists.proofs.InsertionLaws.{length-insertion}

pub length_arranged : {X K : Type 0} (key : X → K) (before : K → K → Bool) (xs : List X)
    → length (arranged key before xs) ≡ length xs
unfolding arranged
length_arranged key before [] = refl
length_arranged key before (x ∷ xs) = grind (arith, length-insertion, length_arranged key before xs)

length_joined : {X : Type 0} (i : ℕ) (bins : List (List X)) → length (get_or bins i []) ≤ length (joined bins)
unfolding joined
length_joined i [] = omega arith
length_joined zero (bin ∷ bins) = omega (arith, length-append bin (joined bins))
length_joined (suc i) (bin ∷ bins) = omega (arith, length-append bin (joined bins), length_joined i bins)

pub length_in : {X K : Type 0} (key : X → K) (before : K → K → Bool) (i : ℕ) (bins : List (List X))
    → length (get_or bins i []) ≤ length (map key (arranged key before (joined bins)))
length_in key before i bins = grind (arith, length-map, length_arranged, length_joined)

pub mapped_pairs : {X Y : Type 0} (f : X → Y) (relation : Y → Y → Bool) (xs : List X)
    → pairwise relation (map f xs) ≡ pairwise (λ x y. relation (f x) (f y)) xs
mapped_pairs f relation [] = refl
mapped_pairs f relation (x ∷ xs) = rw (list_all-map (relation (f x)) f xs, mapped_pairs f relation xs) refl

-- a relation of those of one key alone holds of all pairs where it holds of all pairs of each key
pub by_key : {X K : Type 0} (key : X → K) (same : K → K → Bool) (relation : X → X → Bool) → ((k : K) → same k k ≡ true)
    → ((x y : X) → same (key y) (key x) ≡ false → relation x y ≡ true) → (xs : List X)
    → ((k : K) → pairwise relation (filter (is_keyed key same k) xs) ≡ true) → pairwise relation xs ≡ true
by_key key same relation itself apart [] h = refl
by_key key same relation itself apart (x ∷ xs) h = and_from (list_all (relation x) xs) (pairwise relation xs)
    (grind (arith, each, and_parts, mine)) (by_key key same relation itself apart xs (grind (arith, later)))
  where
    mine : pairwise relation (x ∷ filter (is_keyed key same (key x)) xs) ≡ true
    mine = rw (itself (key x)) at (h (key x))

    later : (b : Bool) (k : _) → same (key x) k ≡ b → pairwise relation
        (cond (same (key x) k) (x ∷ filter (is_keyed key same k) xs) (filter (is_keyed key same k) xs)) ≡ true
        → pairwise relation (filter (is_keyed key same k) xs) ≡ true
    later true k e g = grind (arith, and_parts)
    later false k e g = rw e at g

    each : (ys : _) → list_all (relation x) (filter (is_keyed key same (key x)) ys) ≡ true
        → list_all (relation x) ys ≡ true
    each [] g = refl
    each (y ∷ ys) g = grind (arith, and_parts, and_from, each ys)
