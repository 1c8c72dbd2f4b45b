-- Searches that go on.
use Rattle.plex_run.proofs.Imports.{◌≡◌, ℕ, zero, suc, ◌+◌, ◌<◌, Bool, false, List, [], ◌∷◌, length, drop, refl, ap, ◌∙◌, sym, add-one, arith, find, enumerate_from}

later_from : {X : Type 0} (p : ℕ → Bool) (m n : ℕ) (xs : List X) → n < length xs → p m ≡ false
    → find (λ (place : ℕ × X). p place.0) (enumerate_from m (drop n xs)) ≡ find (λ (place : ℕ × X). p place.0)
    (enumerate_from (m + 1) (drop (suc n) xs))
later_from p m n [] lt h = absurd (omega arith)
later_from p m zero (x ∷ xs) lt h = rw h refl
later_from p m (suc n) (x ∷ xs) lt h = later_from p m n xs (omega arith) h

-- a place that fails is passed over
pub find_later : {X : Type 0} (p : ℕ → Bool) (n : ℕ) (xs : List X) → n < length xs → p n ≡ false
    → find (λ (place : ℕ × X). p place.0) (enumerate_from n (drop n xs)) ≡ find (λ (place : ℕ × X). p place.0)
    (enumerate_from (n + 1) (drop (n + 1) xs))
find_later p n xs lt h = later_from p n n xs lt h
    ∙ ap (λ k. find (λ place. p place.0) (enumerate_from (n + 1) (drop k xs))) (sym (add-one n))
