-- What words stand for is in its form and its range.
use Rattle.plex_plain.proofs.Imports.{◌≡◌, ℕ, ◌-◌, ◌≤◌, ◌<◌, ◌==◌, Bool, true, not, List, [], ◌∷◌, ◌++◌, Some, length, refl, sym, ap, ◌∙◌, arith, subst, zero, suc, inl, inr, replicate, position, list_all, and_parts, nat_tests, take_while-cons, Name16, CfId, ConnId, StrNo, StrForm, IsFacility, IsTerm, IsPadded, block_of, text_in_block, term_byte, Names, Declared, Token, IsWord, IsText, IsData, IsRecord, Spells, is_term, is_name, facility_of, connector_of, structure_of, Literal, Number, Term, Short, Data, OnResource, Record, OfFacility, OfConnector, OfStructure, NewFacility, NewName, mapped, Words, characters-term, IsTerm-whole, IsTerm-repeat, length-repeat, term-name, IsOneOf, IsNamed, IsWithin, AreWithin}

-- ---- names and data

abbrev no_blank : ℕ → Bool
no_blank b = not (b == 32)

not_blank : (b : ℕ) → term_byte b ≡ true → no_blank b ≡ true
not_blank b h = grind (arith, nat_tests)

pub word-front : (word : List ℕ) (n : ℕ)
    → list_all term_byte word ≡ true → text_in_block (word ++ replicate n 32) ≡ word
word-front [] zero h = refl
word-front [] (suc n) h = take_while-cons no_blank 32 (replicate n 32)
word-front (b ∷ word) n h =
    let parts = and_parts (term_byte b) (list_all term_byte word) h in
    let here = not_blank b parts.0 in
    take_while-cons no_blank b (word ++ replicate n 32)
    ∙ (rw here (ap (λ (w : List ℕ). b ∷ w) (word-front word n parts.1)))

unpadded-is : (bytes word : List ℕ) → is_term word ≡ true → bytes ≡ block_of word → text_in_block bytes ≡ word
unpadded-is bytes word term e = ap text_in_block e ∙ word-front word (16 - length word) (characters-term word term)

term-within : (bytes word : List ℕ) → is_term word ≡ true → length word ≤ 16 → bytes ≡ block_of word → IsPadded bytes
term-within bytes word term short e = grind (arith, unpadded-is, IsTerm-whole)

name-within : (name : Name16) (word : List ℕ) → is_name word ≡ true → length word ≤ 16 → name.0 ≡ block_of word
    → IsNamed name
name-within name word named short e =
    let term = term-name word named in
    let is = unpadded-is name.0 word term e in
    (term-within name.0 word term short e, subst (λ (w : List ℕ). is_name w ≡ true) (sym is) named)

text-within : (limit : ℕ) (text word : List ℕ) → IsText Names limit text word → IsTerm limit text
text-within limit text word h = subst (IsTerm limit) (sym h.1.1) (IsTerm-whole limit word h.1.0 h.0)

data-within : (text word : List ℕ) → IsData Names text word → IsTerm 4096 text
data-within text word (inl h) = text-within 4096 text word h
data-within text word (inr h) = grind (arith, length-repeat, IsTerm-repeat)

-- ---- what a word names

facility-number : (n : ℕ) (cf : CfId) → 1 ≤ n → n ≤ 4 → (let f : CfId = record { 0 = n } in Some f) ≡ Some cf
    → IsFacility cf
facility-number n cf low high h = grind arith

facility-bounds : (word : List ℕ) (cf : CfId) → facility_of word ≡ Some cf → IsFacility cf
facility-bounds word cf h = grind (arith, facility-number)

position-within : {X : Type 0} (p : X → Bool) (xs : List X) (i : ℕ) → position p xs ≡ Some i → i < length xs
position-within p xs i h = grind (arith, nat_tests)

pub connector-bounds : (connectors : List Name16) (word : List ℕ) (conn : ConnId)
    → connector_of connectors word ≡ Some conn → IsOneOf (length connectors) conn
connector-bounds connectors word conn h = grind (arith, mapped, position-within)

structure-bounds : (structures : List StrForm) (word : List ℕ) (on : StrNo) → structure_of structures word ≡ Some on
    → on.0 < length structures
structure-bounds structures word on h = grind (arith, mapped, position-within)

record-within : (id : ℕ) (word : List ℕ) → IsRecord Names id word → (1 ≤ id) × (id ≤ 4294967295)
record-within id [] h = absurd h
record-within id (b ∷ word) h = (h.1.1.1, h.1.1.2)

-- ---- words

word-within : (declared : Declared) (token : Token) (word : List ℕ) → IsWord Names declared token word
    → IsWithin declared token
word-within declared (Literal text) word h = tt
word-within declared (Number low high n) word h = (h.1.1, h.1.2)
word-within declared (Term bytes) word h = term-within bytes word h.0 h.1.0 h.1.1
word-within declared (Short text) word h = text-within 64 text word h
word-within declared (Data text) word h = data-within text word h
word-within declared (OnResource r) word h =
    (term-within r.name.0 h.name h.named.0 h.named.1.0 h.padded, h.numeral.1.2)
word-within declared (Record id) word h = record-within id.0 word h
word-within declared (OfFacility cf) word h = (facility-bounds word cf h.0, h.1)
word-within declared (OfConnector conn) word h = connector-bounds declared.connectors word conn h.1
word-within declared (OfStructure on) word h = structure-bounds declared.structures word on h.1
word-within declared (NewFacility cf) word h = facility-bounds word cf h
word-within declared (NewName name) word h = name-within name word h.0.0 h.0.1 h.1

pub words-within : (declared : Declared) (tokens : List Token) (ws rest : Words)
    → Spells Names declared tokens ws rest → AreWithin declared tokens
words-within declared [] ws rest h = tt
words-within declared (token ∷ tokens) [] rest h = absurd h
words-within declared (token ∷ tokens) (word ∷ ws) rest h =
    (word-within declared token word h.0, words-within declared tokens ws rest h.1)

pub within-front : (declared : Declared) (front back : List Token) → AreWithin declared (front ++ back)
    → AreWithin declared front
within-front declared [] back h = tt
within-front declared (token ∷ front) back h = (h.0, within-front declared front back h.1)

pub within-back : (declared : Declared) (front back : List Token) → AreWithin declared (front ++ back)
    → AreWithin declared back
within-back declared [] back h = h
within-back declared (token ∷ front) back h = within-back declared front back h.1

pub within-append : (declared : Declared) (front back : List Token)
    → AreWithin declared front → AreWithin declared back → AreWithin declared (front ++ back)
within-append declared [] back h k = k
within-append declared (token ∷ front) back h k = (h.0, within-append declared front back h.1 k)
