-- Plain words are words, and how many bytes they take in a line.
use Rattle.plex_plain.proofs.Imports.{◌≡◌, ℕ, ◌+◌, ◌-◌, ◌≤◌, ◌<◌, ◌^◌, Bool, true, List, [], ◌∷◌, ◌++◌, length, get_or, Option, codes, decimal, refl, arith, zero, suc, length-append, is_ascii_digit, list_all, and_parts, and_from, nat_tests, length-decimal-le, decimal_nonempty, digits_decimal, Name16, CfId, Resource, IsTerm, IsPadded, text_in_block, term_byte, is_nonempty, tail_of, Declared, Token, name_word, Literal, Number, Term, Short, Data, OnResource, Record, OfFacility, OfConnector, NewFacility, NewName, option_tokens, flag_tokens, own, facility_word, resource_word, caller_name, plain_word, plain_words, AreNames, IsWithin, AreWithin}
use Rattle.plex_plain.proofs.Said.{no_name, solid, is_short_word, is_plain, small_high}
use Rattle.plex_plain.proofs.{Places.caller-word, Tests.all-append, Tests.all-weaker, Texts.IsGood, Texts.AreGood}

-- ---- words

solid_term : (b : ℕ) → term_byte b ≡ true → solid b ≡ true
solid_term b h = grind (arith, nat_tests)

solid_digit : (b : ℕ) → is_ascii_digit b ≡ true → solid b ≡ true
solid_digit b h = grind (arith, nat_tests)

pub nonempty : (word : List ℕ) → 0 < length word → is_nonempty word ≡ true
nonempty [] h = absurd (omega arith)
nonempty (b ∷ word) h = refl

text-good : (limit most : ℕ) (text : List ℕ) → limit ≤ most → IsTerm limit text → IsGood most text
text-good limit most text less h = grind (arith, nonempty, all-weaker, solid, solid_term)

pub name-good : (name : Name16) → IsPadded name.0 → IsGood 64 (name_word name)
name-good name h = text-good 16 64 (name_word name) (omega arith) h.0

digits-solid : (n : ℕ) → n < 2 ^ 64 → list_all solid (decimal n) ≡ true
digits-solid n small = all-weaker is_ascii_digit solid solid_digit (decimal n) (digits_decimal own n small)

pub number-good : (n : ℕ) → n < 2 ^ 64 → IsGood 20 (decimal n)
number-good n small = grind (arith, nonempty, decimal_nonempty, digits-solid, length-decimal-le)

-- something before a number
led-good : (front : List ℕ) (n most : ℕ) → n < 2 ^ 64 → is_nonempty front ≡ true → list_all solid front ≡ true
    → length front + 20 ≤ most → IsGood most (front ++ decimal n)
led-good [] n most small some all short = absurd (cc)
led-good (b ∷ front) n most small some all short = record {
  some = refl;
  solid_all = all-append solid (b ∷ front) (decimal n) all (digits-solid n small);
  short = omega (arith, (number-good n small).short, length-append front (decimal n));
}

pub wider : (few most : ℕ) (word : List ℕ) → few ≤ most → IsGood few word → IsGood most word
wider few most word less h = grind arith

pub facility-good : (cf : CfId) → cf.0 ≤ 4 → IsGood 64 (facility_word cf)
facility-good cf low = led-good (codes "CF") cf.0 64 (omega arith) refl refl (omega arith)

resource-good : (r : Resource) → IsPadded r.name.0 → r.hash ≤ 4294967295 → IsGood 64 (resource_word r)
resource-good r named least =
    let name = name-good r.name named in
    led-good (name_word r.name ++ codes "@") r.hash 64 (omega arith) (grind (arith, nonempty, length-append)) (grind
    (arith, all-append, solid)) (omega (arith, named.0.short, length-append (name_word r.name) (codes "@")))

connector-good : (connectors : List Name16) (n : ℕ) → AreNames connectors → 1 ≤ n → n ≤ length connectors
    → IsGood 64 (caller_name connectors n)
connector-good connectors n h some most = rw (caller-word connectors n no_name some most)
    (name-good (get_or connectors (n - 1) no_name) (h.0 (n - 1) no_name (omega arith)).0)

-- the operator too
pub caller-good : (connectors : List Name16) (n : ℕ) → AreNames connectors → n ≤ length connectors
    → IsGood 64 (caller_name connectors n)
caller-good connectors zero h most = record { some = refl; solid_all = refl; short = omega arith }
caller-good connectors (suc n) h most = connector-good connectors (suc n) h (omega arith) most

short-good : (text : List ℕ) → is_short_word text ≡ true → IsGood 64 text
short-good [] h = absurd (cc)
short-good (b ∷ bs) h = grind (arith, and_parts, solid, nat_tests)

-- how many bytes the word of a token takes at most
abbrev pub room_of : Token → ℕ
room_of (Data text) = 4096
room_of token = 64

token-good : (declared : Declared) (token : Token) → AreNames declared.connectors → is_plain token ≡ true
    → IsWithin declared token → IsGood (room_of token) (plain_word [] declared.connectors token)
token-good declared (Literal text) names plain h = short-good text plain
token-good declared (Number low high n) names plain h =
    wider 20 64 (decimal n) (omega arith) (number-good n (omega (arith, small_high high plain, h.1)))
token-good declared (Term bytes) names plain h = text-good 16 64 (text_in_block bytes) (omega arith) h.0
token-good declared (Short text) names plain h = text-good 64 64 text (omega arith) h
token-good declared (Data text) names plain h = text-good 4096 4096 text (omega arith) h
token-good declared (OnResource r) names plain h = resource-good r h.0 h.1
token-good declared (Record id) names plain h =
    led-good (codes "#") id.0 64 (omega (arith, h.1)) refl refl (omega arith)
token-good declared (OfFacility cf) names plain h = facility-good cf h.0.1
token-good declared (OfConnector conn) names plain h = connector-good declared.connectors conn.0 names h.0 h.1
token-good declared (NewFacility cf) names plain h = facility-good cf h.1
token-good declared (NewName name) names plain h = name-good name h.0
token-good declared token names plain h = absurd (cc)

-- ---- rows of tokens

-- with a blank before each
abbrev pub rooms : List Token → ℕ
rooms [] = 0
rooms (token ∷ tokens) = room_of token + 1 + rooms tokens

pub words-good : (declared : Declared) (tokens : List Token) → AreNames declared.connectors → list_all
    is_plain tokens ≡ true → AreWithin declared tokens → AreGood (plain_words [] declared.connectors tokens)
    × (length (tail_of (plain_words [] declared.connectors tokens)) ≤ rooms tokens)
words-good declared [] names plain h = (tt, omega arith)
words-good declared (token ∷ tokens) names plain h =
    let parts = and_parts (is_plain token) (list_all is_plain tokens) plain in
    let word = plain_word [] declared.connectors token in
    let rest = plain_words [] declared.connectors tokens in
    let good = token-good declared token names parts.0 h.0 in
    let more = words-good declared tokens names parts.1 h.1 in
    ((good.some, good.solid_all, more.0), omega (arith, good.short, more.1, length-append (32 ∷ word) (tail_of rest)))

-- tokens that commands are made of, whose words take so many bytes at most
pub record IsRow (most : ℕ) (tokens : List Token) : Type 0 where
  pub plain : list_all is_plain tokens ≡ true
  pub short : rooms tokens ≤ most

pub no_tokens : IsRow 0 []
no_tokens = record { plain = refl; short = omega arith }

pub token-first : (token : Token) (tokens : List Token) (most : ℕ) → is_plain token ≡ true → IsRow most tokens
    → IsRow (room_of token + 1 + most) (token ∷ tokens)
token-first token tokens most plain h = grind (arith, and_from, is_plain)

rooms-append : (xs ys : List Token) → rooms (xs ++ ys) ≡ rooms xs + rooms ys
rooms-append [] ys = omega arith
rooms-append (x ∷ xs) ys = omega (arith, rooms-append xs ys)

pub row-append : (m n : ℕ) (xs ys : List Token) → IsRow m xs → IsRow n ys → IsRow (m + n) (xs ++ ys)
row-append m n xs ys h k = grind (arith, all-append, is_plain, rooms-append)

pub row-wider : (m n : ℕ) (tokens : List Token) → m ≤ n → IsRow m tokens → IsRow n tokens
row-wider m n tokens less h = record { plain = h.plain; short = omega (arith, h.short) }

pub row-option : {X : Type 0} (most : ℕ) (word : List ℕ) (tokens : X → List Token) (o : Option X)
    → is_short_word word ≡ true → ((x : X) → IsRow most (tokens x)) → IsRow (65 + most) (option_tokens word tokens o)
row-option most word tokens o fine h = grind (arith, token-first)

pub row-flag : (word : List ℕ) (given : Bool) → is_short_word word ≡ true → IsRow 65 (flag_tokens word given)
row-flag word given fine = grind (arith, token-first, no_tokens)
