-- The bits of a word that is made of bits.
use Rattle.struct_cell.proofs.Imports.{◌≡◌, ℕ, zero, suc, ◌%◌, ◌^◌, ◌<◌, ◌≤◌, ◌==◌, Bool, ◌∙◌, subst, arith, inl, inr, pow-suc, if◌then◌else◌, bit_at, cases_lt, bit_at_cat_low, bit_at_cat_high, bit_in, word_from, whole_word}

abbrev pub one_if : Bool → ℕ
one_if b = if b then 1 else 0

pub word-small : (f : ℕ → Bool) (n : ℕ) → word_from f n < 2 ^ n
word-small f zero = omega arith
word-small f (suc n) = grind (arith, pow-suc, word-small f n)

bit-word : (f : ℕ → Bool) (n k : ℕ) → k < n → bit_at (word_from f n) k ≡ one_if (f k)
bit-word f zero k less = absurd (omega arith)
bit-word f (suc n) k less = elim (cases_lt k n) [
  | inl low ↦ bit_at_cat_low (one_if (f n)) n (word_from f n) k low ∙ bit-word f n k low
  | inr high ↦ grind (arith, bit_at_cat_high, word-small)
]

pub word_bits : (f : ℕ → Bool) (n k : ℕ) → n ≤ 32 → k < n → bit_in (word_from f n) k ≡ f k
word_bits f n k most less = grind (arith, bit-word)

-- the word that a loop over its 32 bits ends with
pub whole : (f : ℕ → Bool) (k found : ℕ) → k ≡ 32 → found ≡ word_from f k → found ≡ whole_word f
unfolding whole_word
whole f k found all is = subst (λ n. found ≡ word_from f n) all is

-- each bit of a word
pub whole_bit : (f : ℕ → Bool) (index : ℕ) → bit_in (whole_word f) index ≡ f (index % 32)
unfolding whole_word
whole_bit f index =
    let small : index % 32 < 32 = omega arith in
    let same : index % 32 % 32 ≡ index % 32 = omega arith in
    subst (λ j. (bit_at (word_from f 32) j == 1) ≡ f (index % 32)) same
    (word_bits f 32 (index % 32) (omega arith) small)

pub whole-small : (f : ℕ → Bool) → whole_word f < 2 ^ 32
unfolding whole_word
whole-small f = word-small f 32

pub word_place : (f : ℕ → Bool) (k : ℕ) → k < 32 → bit_at (whole_word f) k ≡ one_if (f k)
unfolding whole_word
word_place f k less = bit-word f 32 k less
