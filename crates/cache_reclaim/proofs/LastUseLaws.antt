-- A place in one list behind another.
use Rattle.cache_reclaim.proofs.Imports.{◌≡◌, ℕ, ◌+◌, ◌<◌, suc, zero, ◌++◌, slice_get, List, [], ◌∷◌, length, ap, refl, arith}

pub slice_get-front : {X : Type 0} (xs ys : List X) (k : ℕ) → k < length xs → slice_get (xs ++ ys) k ≡ slice_get xs k
slice_get-front [] ys k h = absurd (omega arith)
slice_get-front (x ∷ xs) ys zero h = refl
slice_get-front (x ∷ xs) ys (suc k) h = slice_get-front xs ys k (omega arith)

pub slice_get-behind : {X : Type 0} (xs ys : List X) (k j : ℕ) → k ≡ length xs + j
    → slice_get (xs ++ ys) k ≡ slice_get ys j
slice_get-behind [] ys k j h = let same : k ≡ j = omega arith in ap (slice_get ys) same
slice_get-behind (x ∷ xs) ys zero j h = absurd (omega arith)
slice_get-behind (x ∷ xs) ys (suc k) j h = slice_get-behind xs ys k j (omega arith)
