-- A reader of a word reads what the word stands for, and misses nothing.
use Rattle.plex_spell.proofs.Imports.{◌≡◌, ℕ, ◌<◌, ◌≤◌, ◌^◌, ◌==◌, ◌&&◌, ◌||◌, Bool, true, false, nat_le, List, [], ◌∷◌, length, Option, Some, None, option_map, refl, sym, ap, ◌∙◌, arith, eq-eqb, lit<, is_ascii_uppercase, is_ascii_digit, decimal, list_all, and_parts, and_from, nat_tests, Name16, Key16, CfId, EntryId, term_byte, block_of, Rigour, Form, Names, Declared, AtLimits, AtNames, IsNumber, IsText, IsName, IsRecord, is_term, is_name, facility_of, is_declared, ◌>>=◌, within_limits, named_value, is_names, number_of, text_of, name_of, key_of, new_name_of, record_of, facility_in}
use Rattle.plex_spell.proofs.Choices.{chosen, not_some, mapped, bound}
use Rattle.plex_spell.proofs.NumberLaws.{decimal-numeral, value-decimal, numeral-decimal}

-- what a reader makes of a word that stands for a value: that value, where all counts
pub record Finds {V : Type 0} (rigour : Rigour) (reading : Option V) (value : V) : Type 0 where
  pub found : V
  pub read : reading ≡ Some found
  pub same : is_names rigour ≡ true → found ≡ value

pub kept_value : {V : Type 0} (rigour : Rigour) (fits : Bool) (value other v : V) (P : Type 0) (Q : V → Type 0)
    → P → (fits ≡ true → Q value) → within_limits rigour fits value other ≡ Some v → AtLimits rigour P (Q v)
kept_value Form fits value other v P Q p q h = p
kept_value rigour true value other v P Q p q h = let same : value ≡ v = cc in rw (← same) (q refl)
kept_value rigour false value other v P Q p q h = absurd (cc)

pub kept_finds : {V : Type 0} (rigour : Rigour) (fits : Bool) (value other v : V) (P Q : Type 0)
    → (Q → (fits ≡ true) × (value ≡ v)) → AtLimits rigour P Q → Finds rigour (within_limits rigour fits value other) v
kept_finds Form fits value other v P Q f h = grind arith
kept_finds rigour fits value other v P Q f h = grind arith

-- ---- numbers

in_range : (low high v : ℕ) → (nat_le low v && nat_le v high) ≡ true → (low ≤ v) × (v ≤ high)
in_range low high v h = grind (arith, and_parts, nat_tests)

pub number-sound : (rigour : Rigour) (low high : ℕ) → high < 2 ^ 64 → (word : List ℕ) (n : ℕ)
    → number_of rigour low high word ≡ Some n → IsNumber rigour low high n word
number-sound rigour low high small word n h = grind (arith, chosen, kept_value, in_range, decimal-numeral, not_some)

-- a number that keeps its range is read
pub number-strict : (rigour : Rigour) (low high : ℕ) (word : List ℕ) (n : ℕ)
    → high < 2 ^ 64 → word ≡ decimal n → low ≤ n → n ≤ high → number_of rigour low high word ≡ Some n
number-strict rigour low high word n small e at_least at_most =
    grind (arith, numeral-decimal, value-decimal, and_from, nat_tests)

pub number-complete : (rigour : Rigour) (low high : ℕ) → high < 2 ^ 64 → (word : List ℕ) (n : ℕ)
    → IsNumber rigour low high n word → Finds rigour (number_of rigour low high word) n
number-complete Form low high small word n h = grind (arith, kept_finds)
number-complete rigour low high small word n h =
    record { found = n; read = number-strict rigour low high word n small h.1.0 h.1.1 h.1.2; same = λ _. refl }

-- ---- texts

pub le_true : (m n : ℕ) → m ≤ n → nat_le m n ≡ true
le_true m n h = grind (arith, nat_tests)

pub true_le : (m n : ℕ) → nat_le m n ≡ true → m ≤ n
true_le m n h = grind (arith, nat_tests)

pub text-sound : (rigour : Rigour) (limit : ℕ) (word text : List ℕ) → text_of rigour limit word ≡ Some text
    → IsText rigour limit text word
text-sound rigour limit word text h = grind (arith, chosen, kept_value, true_le, not_some)

pub text-complete : (rigour : Rigour) (limit : ℕ) (word text : List ℕ) → IsText rigour limit text word
    → Finds rigour (text_of rigour limit word) text
text-complete rigour limit word text h = grind (arith, kept_finds, le_true)

-- ---- limits and names

pub at_limits-map : (rigour : Rigour) (P Q R : Type 0) → (Q → R) → AtLimits rigour P Q → AtLimits rigour P R
at_limits-map Form P Q R f h = h
at_limits-map rigour P Q R f h = f h

pub at_limits-both : (rigour : Rigour) (Q R : Type 0) → AtLimits rigour (Unit {0}) Q → AtLimits rigour (Unit {0}) R
    → AtLimits rigour (Unit {0}) (Q × R)
at_limits-both Form Q R h k = tt
at_limits-both rigour Q R h k = (h, k)

pub limits_at_names : (rigour : Rigour) (P Q : Type 0) → is_names rigour ≡ true → AtLimits rigour P Q → Q
limits_at_names Names P Q e h = h
limits_at_names rigour P Q e h = absurd (cc)

-- ---- names and keys, which are padded texts

module _ {V : Type 0} (make : List ℕ → V) (bytes : V → List ℕ) (made : (b : List ℕ) → bytes (make b) ≡ b)
    (whole : (v : V) → make (bytes v) ≡ v) (rigour : Rigour) (word : List ℕ) (v : V) where
  abbrev padded_of : Option V
  padded_of = option_map (λ (text : List ℕ). make (block_of text)) (text_of rigour 16 word)

  abbrev IsPaddedAs : Type 0
  IsPaddedAs = (is_term word ≡ true) × AtLimits rigour (Unit {0}) ((length word ≤ 16) × (bytes v ≡ block_of word))

  pub padded-sound : padded_of ≡ Some v → IsPaddedAs
  padded-sound h =
      let m = mapped (λ (text : List ℕ). make (block_of text)) (text_of rigour 16 word) v h in
      let t = text-sound rigour 16 word m.value m.read in
      let is : block_of m.value ≡ bytes v = sym (made (block_of m.value)) ∙ ap bytes m.made in
      (grind (arith, at_limits-map))

  pub padded-complete : IsPaddedAs → Finds rigour padded_of v
  padded-complete h =
      let t = text-complete rigour 16 word word (grind (arith, at_limits-map)) in
      let same = whole v in record {
        found = make (block_of t.found);
        read = ap (option_map (λ (text : List ℕ). make (block_of text))) t.read;
        same = grind (arith, limits_at_names);
      }

abbrev name_from : List ℕ → Name16
name_from bytes = record { 0 = bytes }

abbrev key_from : List ℕ → Key16
key_from bytes = record { 0 = bytes }

pub name-sound : (rigour : Rigour) (word : List ℕ) (name : Name16) → name_of rigour word ≡ Some name
    → (is_term word ≡ true) × AtLimits rigour (Unit {0}) ((length word ≤ 16) × (name.0 ≡ block_of word))
name-sound = padded-sound name_from (λ n. n.0) (λ b. refl) (λ n. refl)

pub name-complete : (rigour : Rigour) (word : List ℕ) (name : Name16) → (is_term word ≡ true) × AtLimits
    rigour (Unit {0}) ((length word ≤ 16) × (name.0 ≡ block_of word)) → Finds rigour (name_of rigour word) name
name-complete = padded-complete name_from (λ n. n.0) (λ b. refl) (λ n. refl)

pub key-sound : (rigour : Rigour) (word : List ℕ) (key : Key16) → key_of rigour word ≡ Some key
    → (is_term word ≡ true) × AtLimits rigour (Unit {0}) ((length word ≤ 16) × (key.0 ≡ block_of word))
key-sound = padded-sound key_from (λ k. k.0) (λ b. refl) (λ k. refl)

pub key-complete : (rigour : Rigour) (word : List ℕ) (key : Key16) → (is_term word ≡ true) × AtLimits
    rigour (Unit {0}) ((length word ≤ 16) × (key.0 ≡ block_of word)) → Finds rigour (key_of rigour word) key
key-complete = padded-complete key_from (λ k. k.0) (λ b. refl) (λ k. refl)

-- ---- names of structures and connectors

capitals_term : (word : List ℕ) → list_all (λ c. is_ascii_uppercase c || is_ascii_digit c || c == 95) word ≡ true
    → list_all term_byte word ≡ true
capitals_term [] h = refl
capitals_term (b ∷ word) h =
    let parts = and_parts (is_ascii_uppercase b || is_ascii_digit b || b == 95) _ h in
    grind (arith, and_from, nat_tests, capitals_term word parts.1)

pub term-name : (word : List ℕ) → is_name word ≡ true → is_term word ≡ true
term-name [] h = absurd (cc)
term-name (b ∷ word) h = grind (arith, and_parts, and_from, capitals_term, nat_tests)

pub new_name-sound : (rigour : Rigour) (word : List ℕ) (name : Name16) → new_name_of rigour word ≡ Some name
    → IsName rigour word × AtLimits rigour (Unit {0}) (name.0 ≡ block_of word)
new_name-sound rigour word name h = chosen (is_name word) (name_of rigour word) None name (λ named read.
    let n = name-sound rigour word name read in (grind (arith, at_limits-map))) (λ _ none. not_some name none) h

pub new_name-complete : (rigour : Rigour) (word : List ℕ) (name : Name16) → IsName rigour word
    → AtLimits rigour (Unit {0}) (name.0 ≡ block_of word) → Finds rigour (new_name_of rigour word) name
new_name-complete rigour word name named h = rw named.0 (name-complete rigour word name (
  term-name word named.0,
  at_limits-both rigour (length word ≤ 16) (name.0 ≡ block_of word) named.1 h,
))

-- ---- what is declared

known-sound : {V : Type 0} (rigour : Rigour) (o : Option V) (other v : V) → named_value rigour o other ≡ Some v
    → AtNames rigour (Unit {0}) (o ≡ Some v)
known-sound Names o other v h = grind arith
known-sound rigour o other v h = tt

known-complete : {V : Type 0} (rigour : Rigour) (o : Option V) (other v : V) → AtNames rigour (Unit {0}) (o ≡ Some v)
    → Finds rigour (named_value rigour o other) v
known-complete Names o other v h = grind arith
known-complete rigour o other v h = grind arith

abbrev pub IsDeclaredName : {V : Type 0} → Rigour → Option V → V → List ℕ → Type 0
IsDeclaredName rigour o v word = IsName rigour word × AtNames rigour (Unit {0}) (o ≡ Some v)

pub declared-sound : {V : Type 0} (rigour : Rigour) (word : List ℕ) (o : Option V) (other v : V)
    → (new_name_of rigour word >>= (λ name. named_value rigour o other)) ≡ Some v → IsDeclaredName rigour o v word
declared-sound rigour word o other v h =
    let b = bound (λ (name : Name16). named_value rigour o other) (new_name_of rigour word) v h in
    ((new_name-sound rigour word b.value b.read).0, known-sound rigour o other v b.then_)

-- some name for the word
padded_name : List ℕ → Name16
padded_name word = record { 0 = block_of word }

padded_name-is : (word : List ℕ) → (padded_name word).0 ≡ block_of word
unfolding padded_name
padded_name-is word = refl

pub declared-complete : {V : Type 0} (rigour : Rigour) (word : List ℕ) (o : Option V) (other v : V) → IsDeclaredName
    rigour o v word → Finds rigour (new_name_of rigour word >>= (λ name. named_value rigour o other)) v
declared-complete rigour word o other v h =
    grind (arith, new_name-complete rigour word (padded_name word) h.0, padded_name-is, known-complete)

pub facility-sound : (rigour : Rigour) (declared : Declared) (word : List ℕ) (cf : CfId) → facility_in rigour declared
    word ≡ Some cf
    → (facility_of word ≡ Some cf) × AtNames rigour (Unit {0}) (is_declared declared.facilities cf ≡ true)
facility-sound rigour declared word cf h = grind (arith, bound)

pub facility-complete : (rigour : Rigour) (declared : Declared) (word : List ℕ) (cf : CfId) → (facility_of word
    ≡ Some cf) × AtNames rigour (Unit {0}) (is_declared declared.facilities cf ≡ true)
    → Finds rigour (facility_in rigour declared word) cf
facility-complete rigour declared word cf h = grind arith

-- ---- record ids

pub record-sound : (rigour : Rigour) (word : List ℕ) (id : EntryId) → record_of rigour word ≡ Some id
    → IsRecord rigour id.0 word
record-sound rigour [] id h = absurd (cc)
record-sound rigour (b ∷ digits) id h = grind (arith, chosen, mapped, number-sound, lit<, not_some)

pub record-complete : (rigour : Rigour) (word : List ℕ) (id : EntryId) → IsRecord rigour id.0 word
    → Finds rigour (record_of rigour word) id
record-complete rigour [] id h = absurd h
record-complete rigour (b ∷ digits) id h =
    let here : (b == 35) ≡ true = eq-eqb b 35 h.0 in
    let n = number-complete rigour 1 4294967295 (lit< tt) digits id.0 h.1 in
    rw here (grind arith)
