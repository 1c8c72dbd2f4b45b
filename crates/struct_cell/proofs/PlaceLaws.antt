-- Words that places name, and bits whose words they are.
use Rattle.struct_cell.proofs.Imports.{◌≡◌, ℕ, ◌+◌, ◌<◌, ◌≤◌, false, List, [], ◌∷◌, ◌++◌, take, length, get_or, Some, refl, sym, subst, arith, inl, inr, All, cases_lt, All-pop, All-push, take_more, get_or_default, get_or-take, length-take-le, BitChange, ConnId, is_for, Place, IsAt, IsSpared, AreDistinct}

-- no place of a list and one more
pub spared-front : (places : List Place) (place : Place) (conn word : ℕ) → IsSpared (places ++ place ∷ []) conn word
    → IsSpared places conn word
spared-front places place conn word spared =
    (All-pop (λ p. ¬ IsAt conn word p) (places ++ place ∷ []) places (Some place) refl spared).0

-- one change more
pub none-named : (d : BitChange) (changes : List BitChange) (i : ℕ) (conn : ConnId) (index : ℕ) → i < length changes
    → All (λ c. is_for conn index c ≡ false) (take i changes) → is_for conn index (get_or changes i d) ≡ false
    → All (λ c. is_for conn index c ≡ false) (take (i + 1) changes)
none-named d changes i conn index within all here =
    let P : BitChange → Type 0 = λ c. is_for conn index c ≡ false in
    subst (All P) (sym (take_more changes i d within)) (All-push P (take i changes) (get_or changes i d) all here)

-- the words of one connector's vector, one more
pub words-more : (places now : List Place) (conn n : ℕ)
    → ((other word : ℕ) → IsSpared now other word → IsSpared places other word) → (IsSpared now conn n → ⊥)
    → ((word : ℕ) → word < n → IsSpared places conn word → ⊥) → (word : ℕ) → word < n + 1 → IsSpared now conn word → ⊥
words-more places now conn n others here before word less spared = elim (cases_lt word n) [
  | inl low ↦ before word low (others conn word spared)
  | inr high ↦ let same : word ≡ n = omega arith in here (subst (λ w. IsSpared now conn w) same spared)
]

-- the vectors of connectors, one more
pub vectors-more : (places now : List Place) (words n : ℕ) → ((conn word : ℕ) → IsSpared now conn word
    → IsSpared places conn word) → ((word : ℕ) → word < words → IsSpared now (n + 1) word → ⊥)
    → ((conn word : ℕ) → 0 < conn → conn ≤ n → word < words → IsSpared places conn word → ⊥)
    → (conn word : ℕ) → 0 < conn → conn ≤ n + 1 → word < words → IsSpared now conn word → ⊥
vectors-more places now words n others here before conn word some most below spared = elim (cases_lt conn (n + 1)) [
  | inl low ↦ before conn word some (omega arith) below (others conn word spared)
  | inr high ↦ let same : conn ≡ n + 1 = omega arith in here word below (subst (λ c. IsSpared now c word) same spared)
]

-- each of distinct places is spared by those before it
pub spared-before : (places : List Place) (i : ℕ) (d : Place) → i < length places → AreDistinct places
    → IsSpared (take i places) (get_or places i d).conn.0 (get_or places i d).word
spared-before places i d within distinct k e below is =
    let short : length (take i places) ≡ i = length-take-le i places (omega arith) in
    let before : k < i = omega (arith, short, below) in
    let there : get_or (take i places) k e ≡ get_or places k d = grind (arith, get_or-take, get_or_default) in
    distinct k i d before within (subst (IsAt (get_or places i d).conn.0 (get_or places i d).word) there is)
