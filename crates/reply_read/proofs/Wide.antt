-- Numbers of 64 bits are parsed.
use Rattle.std.proofs.Common.{◌≡◌, ℕ, ◌<◌, ◌^◌, Bool, true, false, cond, nat_lt, List, [], ◌∷◌, length, Some, None, Result, Ok, Err, refl, ap, ◌∙◌, arith}
use Rattle.std.specs.Result.{result_ok}
use Rattle.std.specs.Str.Parse.{ParsesUnsigned, digits_value}
use Rattle.std.proofs.lemmas.Bool.Decides.{nat_tests}
use Rattle.std.proofs.lemmas.Result.{OkIff-at_ok, OkIff-at_err}
use Rattle.std.proofs.lemmas.Str.Parse.{parse_digits}
use Rattle.plex_spell.specs.Tokens.{is_numeral}
use Rattle.plex_spell.proofs.NumberLaws.{own, digits-numeral}

nonempty-numeral : (word : List ℕ) → is_numeral word ≡ true → 0 < length word
nonempty-numeral [] h = absurd (cc)
nonempty-numeral (b ∷ bs) h = omega arith

pub parsed-wide : {E : Type 0} (word : List ℕ) (r : Result ℕ E) → is_numeral word ≡ true → ParsesUnsigned 64 10 word r
    → result_ok r ≡ cond (nat_lt (digits_value 10 word) (2 ^ 64)) (Some (digits_value 10 word)) None
parsed-wide {E} word (Ok n) h parses =
    let r : Result ℕ E = Ok n in
    let read = OkIff-at_ok r ((0 < length word) × (digits_value 10 word < 2 ^ 64)) (digits_value 10 word) n
    (parse_digits own 64 word r parses (digits-numeral word h)) refl in
    let within : nat_lt (digits_value 10 word) (2 ^ 64) ≡ true = grind (arith, nat_tests) in
    rw within (ap Some read.1 ∙ refl)
parsed-wide {E} word (Err e) h parses =
    let r : Result ℕ E = Err e in
    let none = OkIff-at_err r ((0 < length word) × (digits_value 10 word < 2 ^ 64)) (digits_value 10 word) e
    (parse_digits own 64 word r parses (digits-numeral word h)) refl in
    past (nat_lt (digits_value 10 word) (2 ^ 64)) refl none
  where
    past : (b : Bool) → nat_lt (digits_value 10 word) (2 ^ 64) ≡ b
        → ((0 < length word) × (digits_value 10 word < 2 ^ 64) → ⊥) → None ≡ cond b (Some (digits_value 10 word)) None
    past true e none = absurd (none (nonempty-numeral word h, grind (arith, nat_tests)))
    past false e none = refl
