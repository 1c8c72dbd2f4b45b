-- Lists as tables: an element is replaced at its place.
use Rattle.cf_lists.proofs.Imports.{◌≡◌, ◌≢◌, ℕ, zero, suc, ◌<◌, List, [], ◌∷◌, length, Some, refl, ap, arith, slice_get, set, slice_get_cases, length-set, get_or-set_same, set-get_or, ◌+◌}
use Rattle.cf_lists.proofs.FilterLaws.{next}

-- an element within a list
pub get_within : {X : Type 0} (xs : List X) (i : ℕ) → i < length xs → (x : X) × (slice_get xs i ≡ Some x)
get_within [] i within = absurd (omega arith)
get_within (x ∷ xs) zero within = (x, refl)
get_within (x ∷ xs) (suc i) within = get_within xs i (omega arith)

pub get-set_same : {X : Type 0} (xs : List X) (i : ℕ) (x y : X) → slice_get xs i ≡ Some x
    → slice_get (set xs i y) i ≡ Some y
get-set_same xs i x y e = grind (arith, slice_get_cases, length-set, get_or-set_same)

pub get-set_other : {X : Type 0} (xs : List X) (i j : ℕ) (y : X) → j ≢ i → slice_get (set xs i y) j ≡ slice_get xs j
get-set_other [] i j y apart = refl
get-set_other (z ∷ xs) zero zero y apart = absurd (apart refl)
get-set_other (z ∷ xs) zero (suc j) y apart = refl
get-set_other (z ∷ xs) (suc i) zero y apart = refl
get-set_other (z ∷ xs) (suc i) (suc j) y apart = get-set_other xs i j y (λ same. apart (ap suc same))

pub set_later : {X : Type 0} (x y : X) (xs : List X) (i : ℕ) → set (x ∷ xs) (1 + i) y ≡ x ∷ set xs i y
set_later x y xs i = rw (next i) refl

-- what stands there, put there again
pub set_same : {X : Type 0} (xs : List X) (i : ℕ) (x : X) → slice_get xs i ≡ Some x → set xs i x ≡ xs
set_same xs i x e = grind (arith, slice_get_cases, set-get_or)
