-- A text has a byte that is no term character exactly where it isn't made of term characters.
use Rattle.cf_types.proofs.Imports.{◌≡◌, ℕ, ◌<◌, ◌+◌, Bool, true, false, not, List, [], ◌∷◌, length, Some, None, position, ◌⊎◌, inl, inr, refl, cond, ◌&&◌, suc, arith, list_all, position_or_len, common_steps}

one_more : (v : Bool) {a : Bool} {n m : ℕ} → ((a ≡ true) × (n ≡ m)) ⊎ ((a ≡ false) × (n < m)) → ((v && a ≡ true)
    × (cond (not (not v)) (1 + n) 0 ≡ suc m)) ⊎ ((v && a ≡ false) × (cond (not (not v)) (1 + n) 0 < suc m))
one_more true (inl h) = inl (h.0, omega (arith, h.1))
one_more true (inr h) = inr (h.0, omega (arith, h.1))
one_more false h = inr (refl, omega arith)

-- either each element passes, and no place is found, or the place of one that doesn't is
pub passes_or_place : (q : ℕ → Bool) (xs : List ℕ) → ((list_all q xs ≡ true) × (position_or_len
    (λ b. not (q b)) xs ≡ length xs)) ⊎ ((list_all q xs ≡ false) × (position_or_len (λ b. not (q b)) xs < length xs))
passes_or_place q [] = inl (refl, refl)
passes_or_place q (x ∷ xs) = one_more (q x) (passes_or_place q xs)

-- where no place is found each element passes, and where one is found not each does
pub passes_at_none : (q : ℕ → Bool) (xs : List ℕ) → position (λ b. not (q b)) xs ≡ None → list_all q xs ≡ true
passes_at_none q xs h = grind (arith, common_steps, passes_or_place q xs)

pub fails_at_some : (q : ℕ → Bool) (xs : List ℕ) (i : ℕ) → position (λ b. not (q b)) xs ≡ Some i
    → list_all q xs ≡ false
fails_at_some q xs i h = grind (arith, common_steps, passes_or_place q xs)
