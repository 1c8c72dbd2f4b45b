-- Names and data that are made of a text and a number.
use Rattle.plex_load.proofs.Imports.{◌≡◌, ℕ, ◌+◌, ◌≤◌, ◌<◌, ◌^◌, zero, suc, true, List, ◌++◌, length, codes, refl, arith, length-append, decimal, list_all, nat_tests, length-decimal-le, decimal_nonempty, digits_decimal, IsTerm, term_byte, is_name, characters-term, term-name, own, all-append, all-weaker, letter}

pub decimal-term : (n : ℕ) → n < 2 ^ 64 → list_all term_byte (decimal n) ≡ true
decimal-term n small = grind (arith, all-weaker, digits_decimal, own, nat_tests)

pub letter_is_name : (c : ℕ) → c < 4 → is_name (letter c) ≡ true
letter_is_name zero low = refl
letter_is_name (suc zero) low = refl
letter_is_name (suc (suc zero)) low = refl
letter_is_name (suc (suc (suc zero))) low = refl
letter_is_name (suc (suc (suc (suc c)))) low = absurd (omega arith)

pub letter-term : (c : ℕ) → c < 4 → list_all term_byte (letter c) ≡ true
letter-term c low = characters-term (letter c) (term-name (letter c) (letter_is_name c low))

-- a text with a number of 32 bits behind it
pub numbered-term : (limit : ℕ) (text : List ℕ) (n : ℕ) → n < 2 ^ 32 → list_all term_byte text ≡ true
    → length text + 10 ≤ limit → IsTerm limit (text ++ decimal n)
numbered-term limit text n small all short = record {
  nonempty = omega (arith, length-append text (decimal n), decimal_nonempty n (omega arith));
  short = omega (
    arith,
    length-append text (decimal n),
    length-decimal-le 10 n (omega arith) (omega arith) (omega arith),
  );
  characters = all-append term_byte text (decimal n) all (decimal-term n (omega arith));
}

pub page_term : (j : ℕ) → j < 2 ^ 32 → IsTerm 16 (codes "N" ++ decimal j)
page_term j small = numbered-term 16 (codes "N") j small refl (omega arith)

pub body_term : (c i : ℕ) → c < 4 → i < 2 ^ 32 → IsTerm 4096 (letter c ++ decimal i)
body_term c i low small = numbered-term 4096 (letter c) i small (letter-term c low) (omega arith)
