-- The tests of a word's indices, one by one; and tests past the vector.
use Rattle.plex_board.proofs.Imports.{◌≡◌, ℕ, ◌+◌, ◌*◌, ◌%◌, ◌<◌, ◌≤◌, ◌==◌, false, List, length, map, refl, sym, ap, subst, arith, All, bit_at, range_with_len, length-map-range_with_len, get_or-map-range_with_len, StrForm, ConnId, AnyHistory, Sight, bit_in, sight, indices_of, IsAnyTold}

-- past the vector a test shows nothing
pub told_past : (form : StrForm) (h : AnyHistory) (conn : ConnId) (test : Sight) → IsAnyTold form h conn test
    → form.vector ≤ test.index → test.bit ≡ false
told_past form (AnyHistory.Cache entries) conn test told past = told.past past
told_past form (AnyHistory.List entries) conn test told past = told.past past
told_past form (AnyHistory.Lock entries) conn test told past = told.past past

indices_are : (word n : ℕ) → n ≡ 32 → indices_of word ≡ range_with_len (32 * word) n
unfolding indices_of
indices_are word n is = ap (range_with_len (32 * word)) (sym is)

-- what holds of the things of a row of numbers holds of each
pub each_of : {X : Type 0} (P : X → Type 0) (f : ℕ → X) (first n k j : ℕ) → All P (map f (range_with_len first n))
    → k < n → first + k ≡ j → P (f j)
each_of P f first n k j all within is =
    let long : length (map f (range_with_len first n)) ≡ n = length-map-range_with_len f first n in
    subst P (get_or-map-range_with_len f first n k j (f j) within is) (all k (f j) (omega (arith, long, within)))

-- what holds of the tests of a word's indices holds of each
pub each_sight : (P : Sight → Type 0) (word bits at sure k : ℕ) → All P (map (sight bits at sure) (indices_of word))
    → k < 32 → P (sight bits at sure (32 * word + k))
each_sight P word bits at sure k all within = by_count 32 refl within
  where
    by_count : (n : ℕ) → n ≡ 32 → k < n → P (sight bits at sure (32 * word + k))
    by_count n is within = each_of P (sight bits at sure) (32 * word) n k (32 * word + k)
        (rw (indices_are word n is) at all) within refl

-- the bit of an index is the word's at the index's place
pub bit_in_word : (bits word k : ℕ) → k < 32 → bit_in bits (32 * word + k) ≡ (bit_at bits k == 1)
bit_in_word bits word k within =
    let is : (32 * word + k) % 32 ≡ k = omega (arith, within) in ap (λ (i : ℕ). bit_at bits i == 1) is
