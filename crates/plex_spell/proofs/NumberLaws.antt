-- The one spelling of a number.
use Rattle.plex_spell.proofs.Imports.{◌≡◌, ℕ, ◌<◌, ◌^◌, true, cond, nat_lt, List, [], ◌∷◌, length, get_or, Some, None, Result, Ok, Err, sym, arith, zero, suc, rules, is_ascii_digit, decimal, list_all, result_ok, IsUtf8, ParsesUnsigned, digits_value, and_parts, and_from, nat_tests, decimal_is_IsNumeral, decimal_digit, first_decimal, decimal-digits_value, digits_decimal, digits_value-decimal, OkIff-at_ok, OkIff-at_err, IsUtf8-from_ascii, IsNumeralModel, numerals_by_value, parse_digits, is_numeral}

abbrev pub AreDigits : List ℕ → Type 0
AreDigits word = list_all is_ascii_digit word ≡ true

pub own : IsNumeralModel AreDigits (digits_value 10)
own = numerals_by_value AreDigits (search rules)

pub digits-numeral : (word : List ℕ) → is_numeral word ≡ true → AreDigits word
digits-numeral [] h = absurd (cc)
digits-numeral (b ∷ bs) h = grind (arith, and_parts, and_from)

nonempty-numeral : (word : List ℕ) → is_numeral word ≡ true → 0 < length word
nonempty-numeral [] h = absurd (cc)
nonempty-numeral (b ∷ bs) h = omega arith

below : (word : List ℕ) → AreDigits word → (i : ℕ) → get_or word i 0 < 128
below [] h i = omega arith
below (b ∷ bs) h zero = grind (arith, and_parts, nat_tests)
below (b ∷ bs) h (suc i) = below bs (and_parts (is_ascii_digit b) (list_all is_ascii_digit bs) h).1 i

pub IsUtf8-numeral : (word : List ℕ) → is_numeral word ≡ true → IsUtf8 word
IsUtf8-numeral word h = IsUtf8-from_ascii word (below word (digits-numeral word h))

-- what is parsed is the value, where that has so many bits
pub parsed-numeral : {E : Type 0} (word : List ℕ) (r : Result ℕ E) → is_numeral word ≡ true → ParsesUnsigned
    32 10 word r → result_ok r ≡ cond (nat_lt (digits_value 10 word) (2 ^ 32)) (Some (digits_value 10 word)) None
parsed-numeral {E} word (Ok n) h parses = grind (arith, OkIff-at_ok, parse_digits, own, digits-numeral, nat_tests)
parsed-numeral {E} word (Err e) h parses =
    grind (arith, OkIff-at_err, parse_digits, own, digits-numeral, nonempty-numeral, nat_tests)

-- ---- the digits of a number

pub decimal-numeral : (word : List ℕ) → is_numeral word ≡ true → digits_value 10 word < 2 ^ 64
    → word ≡ decimal (digits_value 10 word)
decimal-numeral word h small = sym (decimal-digits_value own word (digits-numeral word h) (nonempty-numeral word h) (
    grind (arith, and_parts, nat_tests)) small)

pub value-decimal : (n : ℕ) → n < 2 ^ 64 → digits_value 10 (decimal n) ≡ n
value-decimal n h = digits_value-decimal own n h

numeral_from : (word : List ℕ) → AreDigits word → 0 < length word → (get_or word 0 0 ≡ 48 → length word ≡ 1)
    → is_numeral word ≡ true
numeral_from word digits some short = grind (arith, nat_tests, and_parts)

pub numeral-decimal : (n : ℕ) → n < 2 ^ 64 → is_numeral (decimal n) ≡ true
numeral-decimal n h =
    grind (arith, numeral_from, digits_decimal, own, decimal_is_IsNumeral, decimal_digit, first_decimal)
