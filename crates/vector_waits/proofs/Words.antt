-- A word that is a sum of the worths of bits has these bits alone.
use Rattle.std.proofs.Common.{◌≡◌, ℕ, zero, suc, ◌+◌, ◌*◌, ◌^◌, ◌<◌, ◌≤◌, ◌&&◌, inl, inr, Bool, true, false, if◌then◌else◌, refl, sym, ap, ◌∙◌, arith, subst}
use Rattle.std.proofs.lemmas.Bool.{cases_lt}
use Rattle.std.proofs.Math.Nat.{pow-suc}

abbrev worth : (ℕ → Bool) → ℕ → ℕ
worth bits k = if bits k then 2 ^ k else 0

-- `word bits n` stands for the sum of the first n worths: sum_by (worth bits) (numbers_from 0 n)
module _ (word : (ℕ → Bool) → ℕ → ℕ) (none : (bits : ℕ → Bool) → word bits 0 ≡ 0)
    (next : (bits : ℕ → Bool) (n : ℕ) → word bits (suc n) ≡ word bits n + worth bits n) where
  worth_is : (bits : ℕ → Bool) (n : ℕ) (x : Bool) → bits n ≡ x
      → word bits (suc n) ≡ word bits n + (if x then 2 ^ n else 0)
  worth_is bits n x is = next bits n ∙ ap (λ (b : Bool). word bits n + (if b then 2 ^ n else 0)) is

  below : (bits : ℕ → Bool) (n : ℕ) → word bits n < 2 ^ n
  below bits zero = let zeros = none bits in omega (arith, zeros)
  below bits (suc n) = by_bit (bits n) refl (below bits n)
    where
      by_bit : (x : Bool) → bits n ≡ x → word bits n < 2 ^ n → word bits (suc n) < 2 ^ suc n
      by_bit true is low =
          let all : word bits (suc n) ≡ word bits n + 2 ^ n = worth_is bits n true is in
          let twice : 2 ^ suc n ≡ 2 ^ n * 2 = pow-suc 2 n in omega (arith, all, twice, low)
      by_bit false is low =
          let all : word bits (suc n) ≡ word bits n + 0 = worth_is bits n false is in
          let twice : 2 ^ suc n ≡ 2 ^ n * 2 = pow-suc 2 n in omega (arith, all, twice, low)

  pub same_bits : (b c : ℕ → Bool) (n : ℕ) → word b n ≡ word c n → (k : ℕ) → k < n → b k ≡ c k
  same_bits b c zero e k few = absurd (omega (arith, few))
  same_bits b c (suc n) e k few = by_last (b n) (c n) refl refl (same_bits b c n)
    where
      last : b n ≡ c n → (word b n ≡ word c n → (k : ℕ) → k < n → b k ≡ c k) → word b n ≡ word c n → b k ≡ c k
      last top rest same = elim (cases_lt k n) [
        | inl less ↦ rest same k less
        | inr more ↦ let is : n ≡ k = omega (arith, few, more) in subst (λ (j : ℕ). b j ≡ c j) is top
      ]

      by_last : (x y : Bool) → b n ≡ x → c n ≡ y → (word b n ≡ word c n → (k : ℕ) → k < n → b k ≡ c k) → b k ≡ c k
      by_last true true bx cy rest =
          let one : word b (suc n) ≡ word b n + 2 ^ n = worth_is b n true bx in
          let other : word c (suc n) ≡ word c n + 2 ^ n = worth_is c n true cy in
          last (bx ∙ sym cy) rest (omega (arith, e, one, other))
      by_last false false bx cy rest =
          let one : word b (suc n) ≡ word b n + 0 = worth_is b n false bx in
          let other : word c (suc n) ≡ word c n + 0 = worth_is c n false cy in
          last (bx ∙ sym cy) rest (omega (arith, e, one, other))
      by_last true false bx cy rest =
          let one : word b (suc n) ≡ word b n + 2 ^ n = worth_is b n true bx in
          let other : word c (suc n) ≡ word c n + 0 = worth_is c n false cy in
          let low = below c n in absurd (omega (arith, e, one, other, low))
      by_last false true bx cy rest =
          let one : word b (suc n) ≡ word b n + 0 = worth_is b n false bx in
          let other : word c (suc n) ≡ word c n + 2 ^ n = worth_is c n true cy in
          let low = below b n in absurd (omega (arith, e, one, other, low))

  pub same_word : (b c : ℕ → Bool) (n : ℕ) → ((k : ℕ) → k < n → b k ≡ c k) → word b n ≡ word c n
  same_word b c zero each = none b ∙ sym (none c)
  same_word b c (suc n) each =
      let rest = same_word b c n (λ k few. each k (omega (arith, few))) in
      worth_is b n (c n) (each n (omega arith)) ∙ ap (λ (m : ℕ). m + worth c n) rest ∙ sym (next c n)

  -- A value whose own bits are these: as a word of the bits that lie inside a vector it has those inside, and none past
  -- them.
  module _ (value n : ℕ) (own inside : ℕ → Bool) (is : word own n ≡ value) where
    pub word_has : (bits : ℕ → Bool) → value ≡ word (λ k. inside k && bits k) n → (k : ℕ) → k < n
        → (inside k ≡ true → own k ≡ bits k) × (inside k ≡ false → own k ≡ false)
    word_has bits made k few =
        let same = same_bits own (λ k. inside k && bits k) n (is ∙ made) k few in
        (λ h. same ∙ rw h refl, λ h. same ∙ rw h refl)

    pub word_made : ((k : ℕ) → k < n → inside k ≡ false → own k ≡ false) → value ≡ word (λ k. inside k && own k) n
    word_made past = sym is ∙ same_word own (λ k. inside k && own k) n (λ k few. by_test k few (inside k) refl)
      where
        by_test : (k : ℕ) → k < n → (b : Bool) → inside k ≡ b → own k ≡ inside k && own k
        by_test k few true h = rw h refl
        by_test k few false h = rw h (past k few h)
