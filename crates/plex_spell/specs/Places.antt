-- What a reader makes of single words.
use Rattle.std.specs.Prelude.{◌≡◌, ℕ, ◌*◌, ◌==◌, ◌&&◌, Bool, true, false, not, List, [], ◌∷◌, length, take, Option, None, Some, option_map, option_and_then, nat_le, if◌then◌else◌, Result, Ok, Err}
use Rattle.std.specs.List.{list_any, repeat, before_first, after_first}
use Rattle.std.specs.Str.Parse.{digits_value}
use Rattle.cf_types.specs.declared.limits.TheConstants.{NAME_BYTES, BODY_BYTES}
use Rattle.cf_types.specs.declared.names.Name16.{Name16}
use Rattle.cf_types.specs.declared.names.Key16.{Key16}
use Rattle.cf_types.specs.declared.numbers.CfId.{CfId}
use Rattle.cf_types.specs.declared.numbers.ConnId.{ConnId}
use Rattle.cf_types.specs.declared.numbers.EntryId.{EntryId}
use Rattle.cf_types.specs.declared.numbers.StrNo.{StrNo}
use Rattle.cf_types.specs.declared.resources.Resource.{Resource}
use Rattle.cf_types.specs.Term.{block_of}
use Rattle.plex_spell.specs.declared.judge.Judge.{Judge}
use Rattle.plex_spell.specs.declared.rigour.Rigour.{Rigour}
use Rattle.plex_spell.specs.declared.rigour.Rigour.TheVariants.{Form, Limits, Names}
use Rattle.plex_spell.specs.declared.misses.Miss.{Miss}
use Rattle.plex_spell.specs.declared.misses.Miss.TheVariants.{NoForm, NoMemory}
use Rattle.plex_spell.specs.Tokens.{Declared, is_numeral, is_term, is_name, facility_of, is_declared, connector_of, structure_of}

-- what is declared, as a reader has it at hand
abbrev pub names_of : Judge → Declared
names_of judge = record {
  facilities = judge.facilities.now;
  structures = judge.structures.now;
  connectors =
      judge.connectors.now;
}

abbrev pub is_form : Rigour → Bool
is_form Form = true
is_form Limits = false
is_form Names = false

abbrev pub is_names : Rigour → Bool
is_names Form = false
is_names Limits = false
is_names Names = true

-- the value of a word that keeps the limits; where the form alone counts, another stands for it
abbrev pub within_limits : {V : Type 0} → Rigour → Bool → V → V → Option V
within_limits rigour fits value other = if fits then Some value else if is_form rigour then Some other else None

-- what a word names, where that is declared; where it need not be, another stands for it
abbrev pub named_value : {V : Type 0} → Rigour → Option V → V → Option V
named_value rigour None other = if is_names rigour then None else Some other
named_value rigour (Some value) other = Some value

infixl 10 ◌>>=◌
abbrev pub ◌>>=◌ : {A B : Type 0} → Option A → (A → Option B) → Option B
o >>= f = option_and_then f o

abbrev pub number_of : Rigour → ℕ → ℕ → List ℕ → Option ℕ
number_of rigour low high word =
    if is_numeral word
    then within_limits rigour (nat_le low (digits_value 10 word) && nat_le (digits_value 10 word) high)
    (digits_value 10 word)
    low
    else None

abbrev pub text_of : Rigour → ℕ → List ℕ → Option (List ℕ)
text_of rigour limit word = if is_term word then within_limits rigour (nat_le (length word) limit) word
    (take limit word)
    else None

abbrev pub name_of : Rigour → List ℕ → Option Name16
name_of rigour word = option_map (λ text. (let name : Name16 = record { 0 = block_of text } in name))
    (text_of rigour NAME_BYTES word)

abbrev pub key_of : Rigour → List ℕ → Option Key16
key_of rigour word = option_map (λ text. (let key : Key16 = record { 0 = block_of text } in key))
    (text_of rigour NAME_BYTES word)

abbrev pub stands_in : ℕ → List ℕ → Bool
stands_in at word = list_any (λ b. b == at) word

abbrev pub repeated_of : Rigour → List ℕ → List ℕ → Option (List ℕ)
repeated_of rigour piece times =
    if is_term piece
    then number_of rigour 1 BODY_BYTES times
    >>= (λ n. within_limits rigour (nat_le (n * length piece) BODY_BYTES) (repeat n piece) (take 1 piece))
    else None

abbrev pub data_of : Rigour → List ℕ → Option (List ℕ)
data_of rigour word =
    if stands_in 42 word
    then repeated_of rigour (before_first (λ b. b == 42) word) (after_first (λ b. b == 42) word)
    else text_of rigour BODY_BYTES word

abbrev pub resource_in : Rigour → List ℕ → List ℕ → Option Resource
resource_in rigour name hash =
    name_of rigour name >>= (λ n. option_map (λ h. (let r : Resource = record { name = n; hash = h } in r))
    (number_of rigour 0 4294967295 hash))

abbrev pub resource_of : Rigour → List ℕ → Option Resource
resource_of rigour word =
    if stands_in 64 word
    then resource_in rigour (before_first (λ b. b == 64) word) (after_first (λ b. b == 64) word)
    else None

abbrev pub record_of : Rigour → List ℕ → Option EntryId
record_of rigour [] = None
record_of rigour (b ∷ number) =
    if b == 35
    then option_map (λ n. (let id : EntryId = record { 0 = n } in id)) (number_of rigour 1 4294967295 number)
    else None

abbrev pub new_name_of : Rigour → List ℕ → Option Name16
new_name_of rigour word = if is_name word then name_of rigour word else None

abbrev pub facility_in : Rigour → Declared → List ℕ → Option CfId
facility_in rigour declared word =
    facility_of word >>= (λ cf. if is_names rigour && not (is_declared declared.facilities cf) then None else Some cf)

abbrev pub connector_in : Rigour → Declared → List ℕ → Option ConnId
connector_in rigour declared word =
    new_name_of rigour word >>= (λ name. named_value rigour (connector_of declared.connectors word) (record { 0 = 0 }))

abbrev pub structure_in : Rigour → Declared → List ℕ → Option StrNo
structure_in rigour declared word =
    new_name_of rigour word >>= (λ name. named_value rigour (structure_of declared.structures word) (record { 0 = 0 }))

-- ---- words that are left

-- a reader of one word
abbrev pub on_first : {V : Type 0} → (List ℕ → Option V) → List (List ℕ) → Option (V × List (List ℕ))
on_first reading [] = None
on_first reading (word ∷ words) = option_map (λ value. (value, words)) (reading word)

-- what was read, and the words behind it; want of memory says nothing
abbrev pub Gives : {V : Type 0} → Result V Miss → List (List ℕ) → Option (V × List (List ℕ)) → Type 0
Gives (Ok value) rest reading = reading ≡ Some (value, rest)
Gives (Err NoForm) rest reading = reading ≡ None
Gives (Err (NoMemory cause)) rest reading = Unit {0}

-- the same of one word
abbrev pub Reads : {V : Type 0} → Result V Miss → Option V → Type 0
Reads (Ok value) reading = reading ≡ Some value
Reads (Err NoForm) reading = reading ≡ None
Reads (Err (NoMemory cause)) reading = Unit {0}
