-- A word of 32 bits is what its own bits make.
use Rattle.std.proofs.Common.{◌≡◌, ℕ, zero, suc, ◌+◌, ◌*◌, ◌^◌, ◌%◌, ◌<◌, ◌≤◌, ◌==◌, Bool, if◌then◌else◌, List, [], ◌∷◌, ◌++◌, sym, ap, refl, ◌∙◌, arith}
use Rattle.std.proofs.Common.{sum_by, add-zero, mod-eq_of_lt}
use Rattle.std.specs.Int.{bit_at}
use Rattle.std.proofs.lemmas.Nat.{mod-pow-add}
use Rattle.std.proofs.lemmas.Nat.Bits.{bit_at-lt}
use Rattle.std.proofs.lemmas.List.Sums.{sum_by_push}
use Rattle.caller_slots.specs.RunShown.Kinds.{numbers_from}
use Rattle.caller_waits.specs.Tests.{own_bit}

numbers_more : (first n : ℕ) → numbers_from first (suc n) ≡ numbers_from first n ++ (first + n) ∷ []
numbers_more first zero = ap (λ (m : ℕ). m ∷ []) (sym (add-zero first))
numbers_more first (suc n) = grind (arith, numbers_more (first + 1) n)

abbrev pub worth : (ℕ → Bool) → ℕ → ℕ
worth bits k = if bits k then 2 ^ k else 0

-- the bits below this one as a number
abbrev pub word : (ℕ → Bool) → ℕ → ℕ
word bits n = sum_by (worth bits) (numbers_from 0 n)

pub word_next : (bits : ℕ → Bool) (n : ℕ) → word bits (suc n) ≡ word bits n + worth bits n
word_next bits n =
    let none : 0 + n ≡ n = omega arith in
    ap (sum_by (worth bits)) (numbers_more 0 n ∙ ap (λ x. numbers_from 0 n ++ x ∷ []) none)
    ∙ sum_by_push (worth bits) (numbers_from 0 n) n

worth_of_bit : (bit unit : ℕ) → bit < 2 → (if bit == 1 then unit else 0) ≡ bit * unit
worth_of_bit zero unit small = omega arith
worth_of_bit (suc zero) unit small = omega arith
worth_of_bit (suc (suc bit)) unit small = absurd (omega arith)

low_bits : (value n : ℕ) → word (own_bit value) n ≡ value % 2 ^ n
low_bits value zero = omega arith
low_bits value (suc n) =
    let one : 1 + n ≡ suc n = omega arith in
    let before : word (own_bit value) n ≡ value % 2 ^ n = low_bits value n in
    let last : worth (own_bit value) n ≡ bit_at value n * 2 ^ n = grind (arith, worth_of_bit, bit_at-lt) in
    let parts : value % 2 ^ suc n ≡ bit_at value n * 2 ^ n + value % 2 ^ n =
    ap (λ (m : ℕ). value % 2 ^ m) (sym one) ∙ mod-pow-add value 1 n in
    word_next (own_bit value) n ∙ omega (arith, before, last, parts)

pub own_word : (value n : ℕ) → value < 2 ^ n → word (own_bit value) n ≡ value
own_word value n small = low_bits value n ∙ mod-eq_of_lt small
