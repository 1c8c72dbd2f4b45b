-- What the words of a line stand for, and which words may stand for it.
use Rattle.std.specs.Prelude.{◌≡◌, ℕ, ◌+◌, ◌≤◌, ◌==◌, ◌&&◌, ◌||◌, Bool, false, not, IsTrue, List, [], ◌∷◌, ◌++◌, length, Option, None, Some, option_map, codes, position, ◌⊎◌, if◌then◌else◌}
use Rattle.std.specs.List.{list_all, list_any, repeat}
use Rattle.std.specs.Char.{is_ascii_uppercase, is_ascii_digit}
use Rattle.std.specs.Fmt.{decimal}
use Rattle.cf_types.specs.declared.limits.TheConstants.{NAME_BYTES, ADJUNCT_BYTES, BODY_BYTES}
use Rattle.plex_spell.specs.Words.{same_word}
use Rattle.cf_types.specs.declared.names.Name16.{Name16}
use Rattle.cf_types.specs.declared.numbers.CfId.{CfId}
use Rattle.cf_types.specs.declared.numbers.ConnId.{ConnId}
use Rattle.cf_types.specs.declared.numbers.EntryId.{EntryId}
use Rattle.cf_types.specs.declared.numbers.StrNo.{StrNo}
use Rattle.cf_types.specs.declared.resources.Resource.{Resource}
use Rattle.cf_types.specs.declared.forms.Pref.{Pref}
use Rattle.cf_types.specs.declared.forms.StrForm.{StrForm}
use Rattle.cf_types.specs.Term.{term_byte, block_of, text_in_block}
use Rattle.plex_spell.specs.declared.rigour.Rigour.{Rigour}
use Rattle.plex_spell.specs.declared.rigour.Rigour.TheVariants.{Form, Limits, Names}

-- ---- forms of words

-- digits, the first of them no zero before others
abbrev pub is_numeral : List ℕ → Bool
is_numeral [] = false
is_numeral (b ∷ []) = is_ascii_digit b
is_numeral (b ∷ c ∷ bs) = not (b == 48) && list_all is_ascii_digit (b ∷ c ∷ bs)

-- term characters, one or more
abbrev pub is_term : List ℕ → Bool
is_term [] = false
is_term (b ∷ bs) = list_all term_byte (b ∷ bs)

-- words of the script language, which name nothing
abbrev pub reserved_words : List (List ℕ)
reserved_words =
    codes "OP" ∷ codes "SYS" ∷ codes "NONE" ∷ codes "FACILITY" ∷ codes "STRUCTURE" ∷ codes "PREF" ∷ codes "CONNECTOR"
    ∷ []

-- capital letters, digits and '_', first a letter
abbrev pub is_capital : List ℕ → Bool
is_capital [] = false
is_capital (b ∷ bs) = is_ascii_uppercase b && list_all (λ c. is_ascii_uppercase c || is_ascii_digit c || c == 95) bs

-- the name of a structure or a connector
abbrev pub is_name : List ℕ → Bool
is_name word = is_capital word && not (list_any (same_word word) reserved_words)

-- text before `at` and text after it, where it first stands
pub record IsCut (at : ℕ) (word before after : List ℕ) : Type 0 where
  pub whole : word ≡ before ++ at ∷ after
  pub first : IsTrue (list_all (λ b. not (b == at)) before)

-- ---- what is declared before a line

pub record Declared : Type 0 where
  pub facilities : List Pref
  pub structures : List StrForm
  pub connectors : List Name16

abbrev pub name_word : Name16 → List ℕ
name_word name = text_in_block name.0

-- the number of the facility that a word names
abbrev pub facility_of : List ℕ → Option CfId
facility_of word =
    if same_word word (codes "CF1") then Some (record { 0 = 1 })
    else if same_word word (codes "CF2") then Some (record { 0 = 2 })
    else if same_word word (codes "CF3") then Some (record { 0 = 3 })
    else if same_word word (codes "CF4") then Some (record { 0 = 4 })
    else None

abbrev pub is_declared : List Pref → CfId → Bool
is_declared facilities cf = list_any (λ facility. facility.cf.0 == cf.0) facilities

-- the numbers of the connector and of the structure that a word names, where one is declared
abbrev pub connector_of : List Name16 → List ℕ → Option ConnId
connector_of connectors word =
    option_map (λ (place : ℕ). (let conn : ConnId = record { 0 = place + 1 } in conn))
    (position (λ name. same_word (name_word name) word) connectors)

abbrev pub structure_of : List StrForm → List ℕ → Option StrNo
structure_of structures word =
    option_map (λ (place : ℕ). (let on : StrNo = record { 0 = place } in on))
    (position (λ form. same_word (name_word form.name) word) structures)

-- ---- tokens

-- what a word of a line stands for
pub data Token : Type 0 where
  Literal : (text : List ℕ) → Token
  Number : (low high n : ℕ) → Token
  Term : (bytes : List ℕ) → Token
  Short : (text : List ℕ) → Token
  Data : (text : List ℕ) → Token
  OnResource : (resource : Resource) → Token
  Record : (id : EntryId) → Token
  OfFacility : (cf : CfId) → Token
  OfConnector : (conn : ConnId) → Token
  OfStructure : (on : StrNo) → Token
  NewFacility : (cf : CfId) → Token
  NewName : (name : Name16) → Token

-- a word is judged by its form alone, or by its length and range too, or by what is declared too
abbrev pub AtLimits : Rigour → Type 0 → Type 0 → Type 0
AtLimits Form form within = form
AtLimits Limits form within = within
AtLimits Names form within = within

abbrev pub AtNames : Rigour → Type 0 → Type 0 → Type 0
AtNames Form form known = form
AtNames Limits form known = form
AtNames Names form known = known

-- a number of these bounds
abbrev pub IsNumber : Rigour → ℕ → ℕ → ℕ → List ℕ → Type 0
IsNumber rigour low high n word =
    IsTrue (is_numeral word) × AtLimits rigour (Unit {0}) ((word ≡ decimal n) × (low ≤ n) × (n ≤ high))

-- a text of term characters, so many at most
abbrev pub IsText : Rigour → ℕ → List ℕ → List ℕ → Type 0
IsText rigour limit text word =
    IsTrue (is_term word) × AtLimits rigour (Unit {0}) ((length word ≤ limit) × (text ≡ word))

-- data: as it is, or a text and how many times it stands there
pub record IsRepeated (rigour : Rigour) (text word : List ℕ) : Type 0 where
  pub piece : List ℕ
  pub times : List ℕ
  pub cut : IsCut 42 word piece times
  pub term : IsTrue (is_term piece)
  pub count : ℕ
  pub numeral : IsNumber rigour 1 BODY_BYTES count times
  pub whole : AtLimits rigour (Unit {0}) ((text ≡ repeat count piece) × (length text ≤ BODY_BYTES))

abbrev pub IsData : Rigour → List ℕ → List ℕ → Type 0
IsData rigour text word = IsText rigour BODY_BYTES text word ⊎ IsRepeated rigour text word

-- a resource: its name, `@` and its hash value
pub record IsResource (rigour : Rigour) (resource : Resource) (word : List ℕ) : Type 0 where
  pub name : List ℕ
  pub hash : List ℕ
  pub cut : IsCut 64 word name hash
  pub named : IsText rigour NAME_BYTES name name
  pub padded : AtLimits rigour (Unit {0}) (resource.name.0 ≡ block_of name)
  pub numeral : IsNumber rigour 0 4294967295 resource.hash hash

-- a list record: `#` and its number
abbrev pub IsRecord : Rigour → ℕ → List ℕ → Type 0
IsRecord rigour id [] = ⊥
IsRecord rigour id (b ∷ number) = (b ≡ 35) × IsNumber rigour 1 4294967295 id number

-- a name
abbrev pub IsName : Rigour → List ℕ → Type 0
IsName rigour word = IsTrue (is_name word) × AtLimits rigour (Unit {0}) (length word ≤ NAME_BYTES)

-- the word stands for this
abbrev pub IsWord : Rigour → Declared → Token → List ℕ → Type 0
IsWord rigour declared (Literal text) word = word ≡ text
IsWord rigour declared (Number low high n) word = IsNumber rigour low high n word
IsWord rigour declared (Term bytes) word =
    IsTrue (is_term word) × AtLimits rigour (Unit {0}) ((length word ≤ NAME_BYTES) × (bytes ≡ block_of word))
IsWord rigour declared (Short text) word = IsText rigour ADJUNCT_BYTES text word
IsWord rigour declared (Data text) word = IsData rigour text word
IsWord rigour declared (OnResource resource) word = IsResource rigour resource word
IsWord rigour declared (Record id) word = IsRecord rigour id.0 word
IsWord rigour declared (OfFacility cf) word =
    (facility_of word ≡ Some cf) × AtNames rigour (Unit {0}) (IsTrue (is_declared declared.facilities cf))
IsWord rigour declared (OfConnector conn) word =
    IsName rigour word × AtNames rigour (Unit {0}) (connector_of declared.connectors word ≡ Some conn)
IsWord rigour declared (OfStructure on) word =
    IsName rigour word × AtNames rigour (Unit {0}) (structure_of declared.structures word ≡ Some on)
IsWord rigour declared (NewFacility cf) word = facility_of word ≡ Some cf
IsWord rigour declared (NewName name) word =
    IsName rigour word × AtLimits rigour (Unit {0}) (name.0 ≡ block_of word)

-- the first words stand for the tokens, and the rest follows
abbrev pub Spells : Rigour → Declared → List Token → List (List ℕ) → List (List ℕ) → Type 0
Spells rigour declared [] words rest = words ≡ rest
Spells rigour declared (token ∷ tokens) [] rest = ⊥
Spells rigour declared (token ∷ tokens) (word ∷ words) rest =
    IsWord rigour declared token word × Spells rigour declared tokens words rest
