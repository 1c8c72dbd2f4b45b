-- Words made of bits, which are added one after another; and a number is the sum of its bits' worths.
use Rattle.plex_board.proofs.Imports.{◌≡◌, ℕ, zero, suc, ◌+◌, ◌*◌, ◌^◌, ◌%◌, ◌<◌, ◌≤◌, ◌==◌, Bool, if◌then◌else◌, [], ◌∷◌, ◌++◌, sym, ap, ◌∙◌, arith, add-zero, mod-eq_of_lt, bit_at, sum_by, sum_by_push, mod-pow-add, bit_at-lt, pow-suc, numbers_from}

pub numbers_from-suc : (first n : ℕ) → numbers_from first (suc n) ≡ numbers_from first n ++ (first + n) ∷ []
numbers_from-suc first zero = ap (λ (m : ℕ). m ∷ []) (sym (add-zero first))
numbers_from-suc first (suc n) = grind (arith, numbers_from-suc (first + 1) n)

-- the value of a bit at its place
abbrev pub worth : (ℕ → Bool) → ℕ → ℕ
worth bits k = if bits k then 2 ^ k else 0

pub word_next : (bits : ℕ → Bool) (n : ℕ) → sum_by (worth bits) (numbers_from 0 (suc n)) ≡ sum_by (worth bits)
    (numbers_from 0 n) + worth bits n
word_next bits n =
    let none : 0 + n ≡ n = omega arith in
    ap (sum_by (worth bits)) (numbers_from-suc 0 n ∙ ap (λ x. numbers_from 0 n ++ x ∷ []) none)
    ∙ sum_by_push (worth bits) (numbers_from 0 n) n

pub word_below : (bits : ℕ → Bool) (n : ℕ) → suc (sum_by (worth bits) (numbers_from 0 n)) ≤ 2 ^ n
word_below bits zero = omega arith
word_below bits (suc n) = grind (arith, word_next, pow-suc, word_below bits n)

worth_of_bit : (bit unit : ℕ) → bit < 2 → (if bit == 1 then unit else 0) ≡ bit * unit
worth_of_bit zero unit small = omega arith
worth_of_bit (suc zero) unit small = omega arith
worth_of_bit (suc (suc bit)) unit small = absurd (omega arith)

-- the worths of a number's first bits are what these bits leave of it
low_bits : (number n : ℕ) (bits : ℕ → Bool) → ((k : ℕ) → k < n → bits k ≡ (bit_at number k == 1))
    → sum_by (worth bits) (numbers_from 0 n) ≡ number % 2 ^ n
low_bits number zero bits are = omega arith
low_bits number (suc n) bits are =
    let one : 1 + n ≡ suc n = omega arith in
    let before : sum_by (worth bits) (numbers_from 0 n) ≡ number % 2 ^ n =
    low_bits number n bits (λ k within. are k (omega arith)) in
    let last : worth bits n ≡ bit_at number n * 2 ^ n = grind (arith, worth_of_bit, bit_at-lt) in
    let parts : number % 2 ^ suc n ≡ bit_at number n * 2 ^ n + number % 2 ^ n =
    ap (λ (m : ℕ). number % 2 ^ m) (sym one) ∙ mod-pow-add number 1 n in
    word_next bits n ∙ omega (arith, before, last, parts)

-- a number of so many bits is the sum of their worths
pub all_bits : (number n : ℕ) (bits : ℕ → Bool) → number < 2 ^ n → ((k : ℕ) → k < n → bits k ≡ (bit_at number k == 1))
    → sum_by (worth bits) (numbers_from 0 n) ≡ number
all_bits number n bits small are = low_bits number n bits are ∙ mod-eq_of_lt small
