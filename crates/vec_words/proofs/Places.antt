-- A word of a connector's vector is a word of the table.
use Rattle.vec_words.proofs.Imports.{◌≡◌, ◌+◌, ◌-◌, ◌*◌, ◌/◌, ◌^◌, ◌<◌, ◌≤◌, ℕ, ap, ◌∙◌, subst, sym, arith, mul-le-mul_right, suc-mul, All, dec_le, length-range_with_len, get_or-range_with_len, words_of, word_number, indices_of}

pub within_all : (len conn conns word : ℕ) → 0 < conn → conn ≤ conns → word < words_of len
    → word_number len conn word < conns * words_of len
within_all len conn conns word some most below = grind (arith, mul-le-mul_right, suc-mul)

pub small : (len conn word : ℕ) → len < 2 ^ 32 → conn < 256 → word < words_of len → word_number len conn word < 2 ^ 40
small len conn word fits few below = grind (arith, mul-le-mul_right)

-- the word's number as the code has it
pub number_is : (from span conn word len table : ℕ) → from ≡ conn - 1 → span ≡ words_of len → len ≡ table
    → from * span + word ≡ word_number table conn word
number_is from span conn word len table f s l = let e : span ≡ words_of table =
    s ∙ ap words_of l in λ i. f i * e i + word

pub few : (from span conn word len table : ℕ) → from ≡ conn - 1 → span ≡ words_of len → len ≡ table → len < 2 ^ 32
    → conn < 256 → word < words_of table → from * span + word < 2 ^ 40
few from span conn word len table f s l fits c w = grind (arith, number_is, small)

-- the indices of a word are its own
pub indices_within : (word : ℕ) → All (λ k. k / 32 ≡ word) (indices_of word)
unfolding indices_of
indices_within word k d below =
    let few : k < 32 = subst (λ n. k < n) (length-range_with_len (32 * word) 32) below in
    subst (λ n. n / 32 ≡ word) (sym (get_or-range_with_len (32 * word) 32 k d few)) (omega arith)

-- two vectors have no word in common, nor has one vector two words of one number
pub word_number-same : (len conn other word next : ℕ) → 0 < conn → 0 < other → word < words_of len
    → next < words_of len → word_number len conn word ≡ word_number len other next → (conn ≡ other) × (word ≡ next)
word_number-same len conn other word next some some' below below' same =
    let is : conn ≡ other = equal_by (dec_le conn other) (dec_le other conn) in (is, words is)
  where
    apart : (low high w v : ℕ) → 0 < low → low < high → w < words_of len
        → word_number len low w ≡ word_number len high v → ⊥
    apart low high w v some less small e = grind (arith, small, mul-le-mul_right, suc-mul)

    equal_by : Dec (conn ≤ other) → Dec (other ≤ conn) → conn ≡ other
    equal_by (yes p) (yes q) = omega arith
    equal_by (no p) d = absurd (apart other conn next word some' (omega arith) below' (sym same))
    equal_by (yes p) (no q) = absurd (apart conn other word next some (omega arith) below same)

    words : conn ≡ other → word ≡ next
    words is = grind arith
