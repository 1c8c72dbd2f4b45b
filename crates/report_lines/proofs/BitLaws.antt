-- Binary digits are read back.
use Rattle.std.proofs.Common.{◌≡◌, ℕ, ◌+◌, ◌-◌, ◌*◌, ◌/◌, ◌%◌, ◌==◌, ◌<◌, ◌≤◌, ◌^◌, Bool, true, false, not, cond, nat_lt, List, [], ◌∷◌, Some, None, option_map, zero, suc, refl, sym, ap, ◌∙◌, arith}
use Rattle.std.specs.List.{list_all}
use Rattle.std.proofs.lemmas.Bool.{and_from}
use Rattle.std.proofs.lemmas.Bool.Decides.{nat_tests}
use Rattle.std.proofs.Math.Nat.{pow-suc}
use Rattle.plex_spell.specs.Places.{◌>>=◌}
use Rattle.plex_spell.proofs.Choices.{chosen, not_some, mapped, bound}
use Rattle.plex_report.proofs.Digits.{digits_end, digits_next}
use Rattle.plex_report.specs.Lines.{binary_digits}
use Rattle.line_rows.specs.Rows.{is_plain, is_word, IsSingle}
use Rattle.report_lines.specs.Items.{digit_of, bits_at, bits}

-- a digit more
pub doubled : (count more digit : ℕ) → 0 < count → more < 2 ^ (count - 1) → digit ≤ 1 → digit + 2 * more < 2 ^ count
doubled zero more digit some small low = absurd (omega arith)
doubled (suc count) more digit some small low = grind (arith, pow-suc)

digit_back : (d : ℕ) → d < 2 → digit_of (48 + d) ≡ Some d
digit_back zero low = refl
digit_back (suc zero) low = refl
digit_back (suc (suc d)) low = absurd (omega arith)

more-left : (count : ℕ) → (suc count == 0) ≡ false
more-left count = grind (arith, nat_tests)

-- a digit in front of others
bits-step : (count b digit more : ℕ) (word : List ℕ) → digit_of b ≡ Some digit → bits_at count word ≡ Some more
    → bits_at (suc count) (b ∷ word) ≡ Some (digit + 2 * more)
bits-step count b digit more word d e =
    let less : suc count - 1 ≡ count = omega arith in
    let rest : bits_at (suc count - 1) word ≡ Some more = ap (λ (c : ℕ). bits_at c word) less ∙ e in
    rw (more-left count, d, rest) refl

bits-back : (count n : ℕ) → n < 2 ^ count → bits_at count (binary_digits count n) ≡ Some n
bits-back zero n small =
    let none : n ≡ 0 = omega arith in
    ap (bits_at 0) (digits_end n) ∙ (rw none refl)
bits-back (suc count) n small =
    let half : n / 2 < 2 ^ count = omega (arith, pow-suc 2 count, small) in
    let digit = digit_back (n % 2) (omega arith) in
    let whole : n % 2 + 2 * (n / 2) ≡ n = omega arith in
    let rest = bits-back count (n / 2) half in
    ap (bits_at (suc count)) (digits_next count n)
    ∙ bits-step count (48 + n % 2) (n % 2) (n / 2) (binary_digits count (n / 2)) digit rest ∙ ap Some whole

-- what a digit says
digit_told : (b d : ℕ) → digit_of b ≡ Some d → (b ≡ 48 + d) × (d ≤ 1)
digit_told b d h = chosen (b == 48) (Some 0) (cond (b == 49) (Some 1) None) d
    (λ same k. let e : 0 ≡ d = cc in (grind (arith, nat_tests), omega (arith, e)))
    (λ _ k. chosen (b == 49) (Some 1) None d
    (λ same m. let e : 1 ≡ d = cc in (grind (arith, nat_tests), omega (arith, e))) (λ _ m. not_some d m) k) h

abbrev solid_bits : List ℕ → Bool
solid_bits word = list_all is_plain word

none-left : (count n : ℕ) → bits_at (suc count) [] ≡ Some n → ⊥
none-left count n h =
    let left = more-left count in
    let none : None ≡ Some n = sym (ap (λ (t : Bool). cond t (Some 0) None) left) ∙ h in
    not_some n none

bits-forth : (count : ℕ) (word : List ℕ) (n : ℕ) → bits_at count word ≡ Some n
    → (binary_digits count n ≡ word) × (n < 2 ^ count) × (solid_bits word ≡ true)
bits-forth zero [] n h = let none : 0 ≡ n = cc in (digits_end n, omega (arith, none), refl)
bits-forth (suc count) [] n h = absurd (none-left count n h)
bits-forth zero (b ∷ word) n h = absurd (cc)
bits-forth (suc count) (b ∷ word) n h =
    let less : suc count - 1 ≡ count = omega arith in
    let reading = digit_of b
    >>= (λ (digit : ℕ). option_map (λ (more : ℕ). digit + 2 * more) (bits_at (suc count - 1) word)) in
    let k : reading ≡ Some n = sym (ap (λ (t : Bool). cond t None reading) (more-left count)) ∙ h in
    let r = bound (λ (digit : ℕ). option_map (λ (more : ℕ). digit + 2 * more) (bits_at (suc count - 1) word))
    (digit_of b) n k in
    let m = mapped (λ (more : ℕ). r.value + 2 * more) (bits_at (suc count - 1) word) n r.then_ in
    let read : bits_at count word ≡ Some m.value = ap (λ (c : ℕ). bits_at c word) (sym less) ∙ m.read in
    let f = bits-forth count word m.value read in
    let d = digit_told b r.value r.read in
    let n_is : r.value + 2 * m.value ≡ n = m.made in
    let low : n % 2 ≡ r.value = omega (arith, n_is, d.1) in
    let half : n / 2 ≡ m.value = omega (arith, n_is, d.1) in
    let here : 48 + n % 2 ≡ b = omega (arith, low, d.0) in
    let rest : binary_digits count (n / 2) ≡ word = ap (binary_digits count) half ∙ f.0 in
    let words : (48 + n % 2) ∷ binary_digits count (n / 2) ≡ b ∷ word = cc in
    let small : n < 2 ^ suc count = omega (arith, n_is, d.1, f.1, pow-suc 2 count) in
    let solid : is_plain b ≡ true =
    and_from (nat_lt 32 b) (not (b == 62)) (grind (arith, nat_tests)) (grind (arith, nat_tests)) in
    (digits_next count n ∙ words, small, and_from (is_plain b) (solid_bits word) solid f.2)

pub bits-is : (count : ℕ) → 0 < count → IsSingle (λ n. n < 2 ^ count) (bits count)
bits-is zero some = absurd (omega arith)
bits-is (suc count) some = record {
  back = λ n h. bits-back (suc count) n h;
  forth = λ w n h. told w n h;
}
  where
    told : (w : List ℕ) (n : ℕ) → bits_at (suc count) w ≡ Some n
        → (binary_digits (suc count) n ≡ w) × (n < 2 ^ suc count) × (is_word w ≡ true)
    told [] n h = absurd (none-left count n h)
    told (b ∷ word) n h = bits-forth (suc count) (b ∷ word) n h
