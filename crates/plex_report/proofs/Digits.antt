-- Binary digits, one after another.
use Rattle.plex_report.proofs.Imports.{◌≡◌, ℕ, ◌+◌, ◌%◌, ◌/◌, zero, suc, [], ◌∷◌, ◌++◌, List, refl, arith, append_assoc, binary_digits}

pub digits_end : (n : ℕ) → binary_digits 0 n ≡ []
unfolding binary_digits
digits_end n = refl

pub digits_next : (count n : ℕ) → binary_digits (suc count) n ≡ (48 + n % 2) ∷ binary_digits count (n / 2)
unfolding binary_digits
digits_next count n = refl

pub digits_more : (count rest n : ℕ) → count ≡ rest + 1
    → binary_digits count n ≡ (48 + n % 2) ∷ binary_digits rest (n / 2)
digits_more zero rest n e = absurd (omega arith)
digits_more (suc count) rest n e = grind (arith, digits_next)

pub line_more : (line : List ℕ) (count rest n : ℕ) → count ≡ rest + 1
    → (line ++ (48 + n % 2) ∷ []) ++ binary_digits rest (n / 2) ≡ line ++ binary_digits count n
line_more line count rest n e = grind (arith, append_assoc, digits_more)
