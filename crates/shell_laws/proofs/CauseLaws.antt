-- Refusals in their order: where none holds, each of them doesn't.
use Rattle.shell_laws.proofs.Imports.{◌≡◌, ◌≤◌, ℕ, Bool, false, List, [], ◌∷◌, ◌++◌, Option, None, Some, arith, nat_lt, ltb-false, Refusal, first_refusal, if_rebuilding, refusal_when, Rebuild, none_hold}

pub past_front : (front rest : List (Option Refusal)) → first_refusal (front ++ rest) ≡ None → first_refusal rest ≡ None
past_front [] rest fine = fine
past_front (None ∷ front) rest fine = past_front front rest fine
past_front (Some refusal ∷ front) rest fine = absurd (cc)

pub past_second : (first second : Option Refusal) (rest : List (Option Refusal))
    → first_refusal (first ∷ second ∷ rest) ≡ None → first_refusal rest ≡ None
past_second first second rest fine = past_front (first ∷ second ∷ []) rest fine

pub third_none : (first second third : Option Refusal) (rest : List (Option Refusal))
    → first_refusal (first ∷ second ∷ third ∷ rest) ≡ None → third ≡ None
third_none first second third rest fine = (none_hold (first ∷ second ∷ third ∷ rest) fine).1.1.0

pub fourth_none : (first second third fourth : Option Refusal) (rest : List (Option Refusal))
    → first_refusal (first ∷ second ∷ third ∷ fourth ∷ rest) ≡ None → fourth ≡ None
fourth_none first second third fourth rest fine = (none_hold (first ∷ second ∷ third ∷ fourth ∷ rest) fine).1.1.1.0

-- what isn't refused isn't so
pub not_so : (b : Bool) (why : Refusal) → refusal_when b why ≡ None → b ≡ false
not_so b why fine = grind arith

-- a number that is refused where it is above another isn't above it
pub not_above : (low high : ℕ) (why : Refusal) → refusal_when (nat_lt low high) why ≡ None → high ≤ low
not_above low high why fine = ltb-false low high (not_so (nat_lt low high) why fine)

pub nothing_left : (n : ℕ) (why : Refusal) → refusal_when (nat_lt 0 n) why ≡ None → n ≡ 0
nothing_left n why fine = omega (arith, not_above 0 n why fine)

pub idle_rebuild : (rebuild : Option Rebuild) → if_rebuilding rebuild ≡ None → rebuild ≡ None
idle_rebuild rebuild fine = grind arith
