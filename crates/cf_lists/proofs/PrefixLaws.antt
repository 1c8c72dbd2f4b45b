-- Shortest prefixes that are enough.
use Rattle.cf_lists.proofs.Imports.{arith, ◌≡◌, Bool, true, List, [], ◌∷◌, map, refl, list_all, and_parts, and_from, pairwise, shortest_prefix}

-- a prefix has what all elements have
pub list_all-shortest_prefix : {X : Type 0} (p : X → Bool) (enough : List X → Bool) (xs : List X)
    → list_all p xs ≡ true → list_all p (shortest_prefix enough xs) ≡ true
list_all-shortest_prefix p enough [] h = refl
list_all-shortest_prefix p enough (x ∷ xs) h =
    grind (arith, and_parts, and_from, list_all-shortest_prefix p (λ prefix. enough (x ∷ prefix)) xs)

pub pairwise-shortest_prefix : {X : Type 0} (relation : X → X → Bool) (enough : List X → Bool) (xs : List X)
    → pairwise relation xs ≡ true → pairwise relation (shortest_prefix enough xs) ≡ true
pairwise-shortest_prefix relation enough [] h = refl
pairwise-shortest_prefix relation enough (x ∷ xs) h = grind (
  arith,
  and_parts,
  list_all-shortest_prefix,
  and_from,
  pairwise-shortest_prefix relation (λ prefix. enough (x ∷ prefix)) xs,
)

-- where the whole list is enough, so is the prefix
pub shortest_prefix-enough : {X : Type 0} (enough : List X → Bool) (xs : List X) → enough xs ≡ true
    → enough (shortest_prefix enough xs) ≡ true
shortest_prefix-enough enough [] h = h
shortest_prefix-enough enough (x ∷ xs) h = grind (arith, shortest_prefix-enough (λ prefix. enough (x ∷ prefix)) xs h)

-- where nothing is enough already
pub shortest_prefix-nil : {X : Type 0} (enough : List X → Bool) (xs : List X) → enough [] ≡ true
    → shortest_prefix enough xs ≡ []
shortest_prefix-nil enough [] h = refl
shortest_prefix-nil enough (x ∷ xs) h = rw h refl

-- two tests that agree have the same shortest prefix
pub shortest_prefix_agree : {X : Type 0} (enough also : List X → Bool) → ((prefix : List X)
    → enough prefix ≡ also prefix) → (xs : List X) → shortest_prefix enough xs ≡ shortest_prefix also xs
shortest_prefix_agree enough also h [] = refl
shortest_prefix_agree enough also h (x ∷ xs) =
    rw (h [], shortest_prefix_agree (λ l. enough (x ∷ l)) (λ l. also (x ∷ l)) (λ l. h (x ∷ l)) xs) refl

pub shortest_prefix-map : {X Y : Type 0} (f : X → Y) (enough : List Y → Bool) (xs : List X)
    → shortest_prefix enough (map f xs) ≡ map f (shortest_prefix (λ prefix. enough (map f prefix)) xs)
shortest_prefix-map f enough [] = refl
shortest_prefix-map f enough (x ∷ xs) = grind (arith, shortest_prefix-map f (λ prefix. enough (f x ∷ prefix)) xs)
