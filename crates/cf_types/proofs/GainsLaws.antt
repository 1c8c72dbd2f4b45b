-- What is told of changed bits, one change after another.
use Rattle.cf_types.proofs.Imports.{◌≡◌, ℕ, ◌==◌, ◌&&◌, Bool, true, false, List, [], ◌∷◌, ◌++◌, refl, sym, ap, ◌∙◌, append_assoc, ◌⊎◌, inl, inr, arith, map-append, filter-append, nat_tests, ConnId, BitChange, Bits, Gains, bits_told, difference}
use Rattle.std.proofs.Common.{append-nil}

difference_none : (b : Bool) → [] ≡ difference b b
difference_none false = refl
difference_none true = refl

-- where no bit changed nothing is told
pub gains_none : (before after : Bits) (bits : List BitChange)
    → ((conn : ConnId) (index : ℕ) → after conn index ≡ before conn index) → Gains before after bits bits
gains_none before after bits same = grind (arith, append-nil, difference_none)

pub told-append : (xs ys : List BitChange) (conn : ConnId) (index : ℕ)
    → bits_told (xs ++ ys) conn index ≡ bits_told xs conn index ++ bits_told ys conn index
told-append xs ys conn index = grind (arith, filter-append, map-append)

-- one change after another, where at most one of them changes the bit
difference_then : (a b c : Bool) → (b ≡ a) ⊎ (c ≡ b) → difference a b ++ difference b c ≡ difference a c
difference_then a b c (inl same) = rw same (ap (λ (t : List Bool). t ++ difference a c) (sym (difference_none a)))
difference_then a b c (inr same) = rw same (ap (λ (t : List Bool). difference a b ++ t) (sym (difference_none b))
    ∙ append-nil (difference a b))

-- two changes, of which no bit is changed by both
pub gains_then : (before middle after : Bits) (xs ys zs : List BitChange)
    → ((conn : ConnId) (index : ℕ) → (middle conn index ≡ before conn index) ⊎ (after conn index ≡ middle conn index))
    → Gains before middle xs ys → Gains middle after ys zs → Gains before after xs zs
gains_then before middle after xs ys zs once first second = grind (arith, append_assoc, told-append, difference_then)

-- bits that only fall, twice
pub only_falls : (a b c : Bool) → (b ≡ true → a ≡ true) → (c ≡ true → b ≡ true) → (b ≡ a) ⊎ (c ≡ b)
only_falls false false c h k = inl refl
only_falls true true c h k = inl refl
only_falls true false false h k = inr refl
only_falls true false true h k = let f : false ≡ true = k refl in absurd cc
only_falls false true c h k = let f : false ≡ true = h refl in absurd cc

abbrev pub Falls : Bits → Bits → Type 0
Falls before after = (conn : ConnId) (index : ℕ) → after conn index ≡ true → before conn index ≡ true

pub gains_falls : (before middle after : Bits) (xs ys zs : List BitChange) → Falls before middle → Falls middle after
    → Gains before middle xs ys → Gains middle after ys zs → Gains before after xs zs
gains_falls before middle after xs ys zs fall falls = grind (arith, gains_then, only_falls)

both_left : (a b c d : ℕ) → (a == b) && (c == d) ≡ true → a ≡ b
both_left a b c d e = grind (arith, nat_tests)

both_right : (a b c d : ℕ) → (a == b) && (c == d) ≡ true → c ≡ d
both_right a b c d e = grind (arith, nat_tests)

difference_changed : (a b : Bool) → (a ≡ b → ⊥) → b ∷ [] ≡ difference a b
difference_changed false false h = absurd (h refl)
difference_changed false true h = refl
difference_changed true false h = refl
difference_changed true true h = absurd (h refl)

told_one : (by conn : ConnId) (index i : ℕ) (before after : Bits) → (before by index ≡ after by index → ⊥)
    → ((by.0 == conn.0) && (index == i) ≡ false → after conn i ≡ before conn i) → bits_told (record
    { conn = by; index = index; bit = after by index } ∷ []) conn i ≡ difference (before conn i) (after conn i)
told_one by conn index i before after changed others =
    grind (arith, both_left, both_right, difference_changed, difference_none)

-- one bit changed, and is told
pub gains_one : (by : ConnId) (index : ℕ) (before after : Bits) (bits : List BitChange) → (before by index ≡ after by
    index → ⊥) → ((conn : ConnId) (i : ℕ) → (by.0 == conn.0) && (index == i) ≡ false → after conn i ≡ before conn i)
    → Gains before after bits (bits ++ record { conn = by; index = index; bit = after by index } ∷ [])
gains_one by index before after bits changed others = grind (arith, told_one)
