-- A list from which one element is removed.
use Rattle.event_mail.proofs.Imports.{◌≡◌, ℕ, zero, suc, List, [], ◌∷◌, take, drop, remove, refl, ap, drop_more}

-- the elements in front of it stay
pub take-remove : {X : Type 0} (xs : List X) (n : ℕ) → take n (remove xs n) ≡ take n xs
take-remove [] zero = refl
take-remove [] (suc n) = refl
take-remove (x ∷ xs) zero = refl
take-remove (x ∷ xs) (suc n) = ap (λ (l : List _). x ∷ l) (take-remove xs n)

-- the elements behind it move up
pub drop-remove : {X : Type 0} (xs : List X) (n : ℕ) → drop n (remove xs n) ≡ drop (suc n) xs
drop-remove [] zero = refl
drop-remove [] (suc n) = refl
drop-remove (x ∷ xs) zero = refl
drop-remove (x ∷ xs) (suc n) = drop-remove xs n

-- a list from some place on, with and without the element there
pub ruleset removal = (take-remove, drop-remove, drop_more)
