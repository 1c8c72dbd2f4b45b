-- A plain word stands for its token, where that is in its range.
use Rattle.plex_plain.proofs.Imports.{◌≡◌, ℕ, ◌+◌, ◌-◌, ◌<◌, ◌≤◌, ◌^◌, ◌==◌, ◌&&◌, Bool, true, false, not, nat_le, nat_lt, List, [], ◌∷◌, ◌++◌, length, Some, codes, decimal, refl, arith, zero, suc, inl, append_assoc, lit<, list_all, and_parts, nat_tests, decimal_digit, Name16, CfId, ConnId, Resource, IsFacility, IsTerm, IsPadded, text_in_block, term_byte, Names, Declared, Token, IsWord, IsText, IsNumber, IsName, IsResource, Spells, is_term, name_word, facility_of, connector_of, Literal, Number, Term, Short, Data, OnResource, Record, OfFacility, OfConnector, OfStructure, NewFacility, NewName, numeral-decimal, term_from, facility_word, resource_word, caller_name, plain_word, plain_words, IsNamed, AreNames, IsWithin, AreWithin}
use Rattle.plex_plain.proofs.{Tests.all-weaker, Places.HaveNames, Places.name-place, Places.caller-word}

pub term-said : (bytes : List ℕ) → IsPadded bytes → is_term (text_in_block bytes) ≡ true
term-said bytes h = term_from (text_in_block bytes) h.0.nonempty h.0.characters

text-said : (limit : ℕ) (text : List ℕ) → IsTerm limit text → IsText Names limit text text
text-said limit text h = (term_from text h.nonempty h.characters, (h.short, refl))

pub number-said : (low high n : ℕ) → high < 2 ^ 64 → low ≤ n → n ≤ high → IsNumber Names low high n (decimal n)
number-said low high n small least most = (numeral-decimal n (omega arith), (refl, least, most))

-- ---- facilities

facility-number : (n : ℕ) → 1 ≤ n → n ≤ 4
    → facility_of (codes "CF" ++ decimal n) ≡ (let cf : CfId = record { 0 = n } in Some cf)
facility-number zero some most = absurd (omega arith)
facility-number (suc zero) some most = rw (decimal_digit 1 (omega arith)) refl
facility-number (suc (suc zero)) some most = rw (decimal_digit 2 (omega arith)) refl
facility-number (suc (suc (suc zero))) some most = rw (decimal_digit 3 (omega arith)) refl
facility-number (suc (suc (suc (suc zero)))) some most = rw (decimal_digit 4 (omega arith)) refl
facility-number (suc (suc (suc (suc (suc n))))) some most = absurd (omega arith)

pub facility-said : (cf : CfId) → IsFacility cf → facility_of (facility_word cf) ≡ Some cf
facility-said cf h = facility-number cf.0 h.0 h.1

-- ---- resources

term_at : (b : ℕ) → term_byte b ≡ true → not (b == 64) ≡ true
term_at b h = grind (arith, nat_tests)

resource-said : (r : Resource) → IsPadded r.name.0 → r.hash ≤ 4294967295 → IsResource Names r (resource_word r)
resource-said r named least = grind (arith, append_assoc, all-weaker, term_at, term-said, number-said, lit<)

-- ---- names

pub name-said : (name : Name16) → IsNamed name → IsName Names (name_word name)
name-said name h = (h.1, h.0.0.short)

pub connectors-named : (connectors : List Name16) → AreNames connectors → HaveNames (λ (name : Name16). name)
    connectors
connectors-named connectors h = record { named = h.0; apart = h.1 }

pub no_name : Name16
no_name = record { 0 = [] }

pub connector-said : (connectors : List Name16) (conn : ConnId)
    → AreNames connectors → 1 ≤ conn.0 → conn.0 ≤ length connectors → IsName Names (caller_name connectors conn.0)
    × (connector_of connectors (caller_name connectors conn.0) ≡ Some conn)
connector-said connectors conn h some most =
    let low : conn.0 - 1 < length connectors = omega arith in
    let place = name-place (λ (name : Name16). name) connectors (conn.0 - 1) no_name
    (connectors-named connectors h) low in
    let numbered : ℕ → ConnId = λ (n : ℕ). record { 0 = n + 1 } in
    let back : conn.0 - 1 + 1 ≡ conn.0 = omega arith in
    rw (caller-word connectors conn.0 no_name some most) (grind (arith, name-said, no_name))

-- ---- words of a call

-- of a literal word: one word of 64 bytes at most, without blanks
abbrev pub solid : ℕ → Bool
solid b = nat_lt 32 b

abbrev pub is_short_word : List ℕ → Bool
is_short_word [] = false
is_short_word (b ∷ bs) = nat_le (length (b ∷ bs)) 64 && list_all solid (b ∷ bs)

-- a token that commands are made of
abbrev pub is_plain : Token → Bool
is_plain (Literal text) = is_short_word text
is_plain (Number low high n) = nat_le high 4294967295
is_plain (OfStructure on) = false
is_plain token = true

pub small_high : (high : ℕ) → nat_le high 4294967295 ≡ true → high < 2 ^ 64
small_high high h = let least : high ≤ 4294967295 = grind (arith, nat_tests) in omega (arith, least)

token-said : (declared : Declared) (token : Token) → AreNames declared.connectors → is_plain token ≡ true
    → IsWithin declared token → IsWord Names declared token (plain_word [] declared.connectors token)
token-said declared (Literal text) names plain h = refl
token-said declared (Number low high n) names plain h = number-said low high n (small_high high plain) h.0 h.1
token-said declared (Term bytes) names plain h = (term-said bytes h, (h.0.short, h.1))
token-said declared (Short text) names plain h = text-said 64 text h
token-said declared (Data text) names plain h = inl (text-said 4096 text h)
token-said declared (OnResource r) names plain h = resource-said r h.0 h.1
token-said declared (Record id) names plain h = (refl, number-said 1 4294967295 id.0 (lit< tt) h.0 h.1)
token-said declared (OfFacility cf) names plain h = (facility-said cf h.0, h.1)
token-said declared (OfConnector conn) names plain h = connector-said declared.connectors conn names h.0 h.1
token-said declared (OfStructure on) names plain h = absurd (cc)
token-said declared (NewFacility cf) names plain h = facility-said cf h
token-said declared (NewName name) names plain h = (name-said name h, h.0.1)

pub words-said : (declared : Declared) (tokens : List Token) → AreNames declared.connectors → list_all is_plain tokens
    ≡ true → AreWithin declared tokens → Spells Names declared tokens (plain_words [] declared.connectors tokens) []
words-said declared [] names plain h = refl
words-said declared (token ∷ tokens) names plain h =
    let parts = and_parts (is_plain token) (list_all is_plain tokens) plain in
    (token-said declared token names parts.0 h.0, words-said declared tokens names parts.1 h.1)
