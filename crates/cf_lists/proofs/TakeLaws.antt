-- The first elements of a list, and the one behind them.
use Rattle.cf_lists.proofs.Imports.{◌≡◌, ℕ, ◌+◌, List, [], ◌∷◌, ◌++◌, take, drop, slice_get, Some, arith, take_more, slice_get_cases, take-append-drop, drop-cons}

pub take_next : {X : Type 0} (xs : List X) (n : ℕ) (x : X) → slice_get xs n ≡ Some x
    → take (n + 1) xs ≡ take n xs ++ x ∷ []
take_next xs n x h = grind (arith, take_more, slice_get_cases)

-- the list in three parts
pub split_next : {X : Type 0} (xs : List X) (n : ℕ) (x : X) → slice_get xs n ≡ Some x
    → xs ≡ take n xs ++ x ∷ drop (n + 1) xs
split_next xs n x h = grind (arith, take-append-drop, drop-cons, slice_get_cases)
