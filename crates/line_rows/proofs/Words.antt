-- What is printed for a number, a text or a name is a word.
use Rattle.std.proofs.Common.{◌≡◌, ℕ, ◌-◌, ◌<◌, ◌≤◌, ◌==◌, ◌^◌, true, not, nat_lt, List, [], ◌∷◌, ◌++◌, length, get_or, zero, suc, refl, ap, ◌∙◌, arith, decimal}
use Rattle.std.specs.List.{list_all}
use Rattle.std.specs.Char.{is_ascii_digit}
use Rattle.std.proofs.lemmas.Bool.{and_parts, and_from}
use Rattle.std.proofs.lemmas.Bool.Decides.{nat_tests}
use Rattle.std.proofs.lemmas.Fmt.{decimal_nonempty, digits_decimal}
use Rattle.cf_types.specs.declared.names.Name16.{Name16}
use Rattle.cf_types.specs.declared.numbers.CfId.{CfId}
use Rattle.cf_types.specs.Term.{IsTerm, IsPadded, term_byte}
use Rattle.plex_spell.specs.Words.{is_nonempty}
use Rattle.plex_spell.specs.Tokens.{name_word}
use Rattle.plex_spell.proofs.NumberLaws.{own}
use Rattle.plex_plain.specs.Naming.{facility_word, caller_name}
use Rattle.plex_plain.specs.Ranges.{AreNames}
use Rattle.plex_plain.proofs.Tests.{all-weaker, all-append}
use Rattle.plex_plain.proofs.Texts.{AreGood}
use Rattle.plex_plain.proofs.Places.{caller-word}
use Rattle.plex_plain.proofs.Rooms.{nonempty}
use Rattle.plex_plain.proofs.Said.{no_name, solid}
use Rattle.line_rows.specs.Rows.{is_plain, is_word}

plain_digit : (b : ℕ) → is_ascii_digit b ≡ true → is_plain b ≡ true
plain_digit b h = and_from (nat_lt 32 b) (not (b == 62)) (grind (arith, nat_tests)) (grind (arith, nat_tests))

plain_term : (b : ℕ) → term_byte b ≡ true → is_plain b ≡ true
plain_term b h = and_from (nat_lt 32 b) (not (b == 62)) (grind (arith, nat_tests)) (grind (arith, nat_tests))

plain_solid : (b : ℕ) → is_plain b ≡ true → solid b ≡ true
plain_solid b h = (and_parts (nat_lt 32 b) (not (b == 62)) h).0

digits-plain : (n : ℕ) → n < 2 ^ 64 → list_all is_plain (decimal n) ≡ true
digits-plain n small = all-weaker is_ascii_digit is_plain plain_digit (decimal n) (digits_decimal own n small)

pub number-word : (n : ℕ) → n < 2 ^ 64 → is_word (decimal n) ≡ true
number-word n small =
    and_from (is_nonempty (decimal n)) (list_all is_plain (decimal n)) (nonempty (decimal n) (decimal_nonempty n small))
    (digits-plain n small)

pub text-word : (limit : ℕ) (text : List ℕ) → IsTerm limit text → is_word text ≡ true
text-word limit text h = and_from (is_nonempty text) (list_all is_plain text) (nonempty text h.nonempty)
    (all-weaker term_byte is_plain plain_term text h.characters)

pub name-word : (name : Name16) → IsPadded name.0 → is_word (name_word name) ≡ true
name-word name h = text-word 16 (name_word name) h.0

pub facility-word : (cf : CfId) → cf.0 ≤ 4 → is_word (facility_word cf) ≡ true
facility-word cf low = digits-plain cf.0 (omega (arith, low))

-- the operator too
pub caller-said : (connectors : List Name16) (n : ℕ) → AreNames connectors → n ≤ length connectors
    → is_word (caller_name connectors n) ≡ true
caller-said connectors zero names most = refl
caller-said connectors (suc n) names most =
    ap is_word (caller-word connectors (suc n) no_name (omega arith) most)
    ∙ name-word (get_or connectors (suc n - 1) no_name) (names.0 (suc n - 1) no_name (omega (arith, most))).0

-- a word that is made of two with a byte between them
pub joined-word : (one other : List ℕ) (at : ℕ) → is_word one ≡ true → is_plain at ≡ true → is_word other ≡ true
    → is_word ((one ++ at ∷ []) ++ other) ≡ true
joined-word [] other at h good k = absurd (cc)
joined-word (b ∷ one) other at h good k =
    all-append is_plain ((b ∷ one) ++ at ∷ []) other
    (all-append is_plain (b ∷ one) (at ∷ []) h (and_from (is_plain at) true good refl))
    (and_parts (is_nonempty other) (list_all is_plain other) k).1

-- words of a line, as the laws of lines have them
pub are-good : (words : List (List ℕ)) → list_all is_word words ≡ true → AreGood words
are-good [] h = tt
are-good (word ∷ words) h =
    let parts = and_parts (is_word word) (list_all is_word words) h in
    let here = and_parts (is_nonempty word) (list_all is_plain word) parts.0 in
    (here.0, all-weaker is_plain solid plain_solid word here.1, are-good words parts.1)
