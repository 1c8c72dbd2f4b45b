-- Lines as rows of places, one value at each: the shape in which commands are read.
use Rattle.std.specs.Prelude.{ℕ, Bool, true, false, List, [], ◌∷◌, ◌++◌, Option, None, Some, option_map, codes, if◌then◌else◌}
use Rattle.cf_types.specs.declared.limits.TheConstants.{ADJUNCT_BYTES}
use Rattle.cf_types.specs.declared.names.Name16.{Name16}
use Rattle.cf_types.specs.declared.names.Key16.{Key16}
use Rattle.cf_types.specs.declared.numbers.CfId.{CfId}
use Rattle.cf_types.specs.declared.numbers.ConnId.{ConnId}
use Rattle.cf_types.specs.declared.numbers.StrNo.{StrNo}
use Rattle.cf_types.specs.declared.resources.Resource.{Resource}
use Rattle.cf_types.specs.declared.forms.Refs.{Refs}
use Rattle.cf_types.specs.declared.forms.Refs.TheVariants as refs
use Rattle.cf_types.specs.declared.lock_commands.Decision.{Decision}
use Rattle.cf_types.specs.declared.lock_commands.Decision.TheVariants.{Keep, Deny, Notify}
use Rattle.cf_types.specs.declared.list_commands.At.{At}
use Rattle.cf_types.specs.declared.list_commands.At.TheVariants as at
use Rattle.cf_types.specs.declared.list_commands.Cond.{Cond}
use Rattle.cf_types.specs.declared.list_commands.Cond.TheVariants.{NotHeld, HeldBy}
use Rattle.plex_spell.specs.declared.labels.Label.{Label}
use Rattle.plex_spell.specs.declared.labels.Label.TheVariants as label
use Rattle.plex_spell.specs.declared.labels.LockUse.{LockUse}
use Rattle.plex_spell.specs.declared.labels.LockUse.TheVariants.{Set, Reset, Test}
use Rattle.plex_spell.specs.declared.rigour.Rigour.{Rigour}
use Rattle.plex_spell.specs.Words.{same_word, begins_with, words_behind}
use Rattle.plex_spell.specs.Tokens.{Declared, Token, facility_of}
use Rattle.plex_spell.specs.Tokens.Token.{Data, Literal, NewFacility, NewName, Number, OnResource, Short, Term, OfFacility, OfConnector, OfStructure}
use Rattle.plex_spell.specs.Fields.{one_of_two, option_tokens, flag_tokens, references}
use Rattle.plex_spell.specs.CacheWords.{class_tokens}
use Rattle.plex_spell.specs.ListWords.{at_tokens, cond_tokens, lock_use}
use Rattle.plex_spell.specs.LockWords.{decision}
use Rattle.plex_spell.specs.Places.{◌>>=◌, on_first, number_of, text_of, name_of, key_of, data_of, resource_of, record_of, new_name_of, facility_in, connector_in, structure_in}

-- what may be read at a place of a line
pub data Place : Type 0 where
  Amount : (low high : ℕ) → Place
  AName : Place
  AKey : Place
  AShort : Place
  AData : Place
  AResource : Place
  AFacility : Place
  ANewFacility : Place
  AConnector : Place
  AStructure : Place
  ANewName : Place
  Either : (first second : List ℕ) → Place
  ADecision : Place
  ALockUse : Place
  SomeRefs : Place
  AClass : Place
  ARecord : Place
  ACond : Place
  ALabel : Place
  AFlag : (word : List ℕ) → Place
  AnOption : (word : List ℕ) (place : Place) → Place
  Behind : (word : List ℕ) (place : Place) → Place

abbrev pub Value : Place → Type 0
Value (Amount low high) = ℕ
Value AName = Name16
Value AKey = Key16
Value AShort = List ℕ
Value AData = List ℕ
Value AResource = Resource
Value AFacility = CfId
Value ANewFacility = CfId
Value AConnector = ConnId
Value AStructure = StrNo
Value ANewName = Name16
Value (Either first second) = Bool
Value ADecision = Decision
Value ALockUse = LockUse
Value SomeRefs = Refs
Value AClass = Option ℕ
Value ARecord = At
Value ACond = Option Cond
Value ALabel = Option Label
Value (AFlag word) = Bool
Value (AnOption word place) = Option (Value place)
Value (Behind word place) = Value place

-- the name or the key of a new record, where there is one
abbrev pub label_tokens : Option Label → List Token
label_tokens None = []
label_tokens (Some (label.Name name)) = Literal (codes "NAME") ∷ Term name.0 ∷ []
label_tokens (Some (label.Key key)) = Literal (codes "KEY") ∷ Term key.0 ∷ []

-- what the words at a place stand for
abbrev pub tokens_at : (place : Place) → Value place → List Token
tokens_at (Amount low high) n = Number low high n ∷ []
tokens_at AName name = Term name.0 ∷ []
tokens_at AKey key = Term key.0 ∷ []
tokens_at AShort text = Short text ∷ []
tokens_at AData text = Data text ∷ []
tokens_at AResource r = OnResource r ∷ []
tokens_at AFacility cf = OfFacility cf ∷ []
tokens_at ANewFacility cf = NewFacility cf ∷ []
tokens_at AConnector conn = OfConnector conn ∷ []
tokens_at AStructure on = OfStructure on ∷ []
tokens_at ANewName name = NewName name ∷ []
tokens_at (Either first second) choice = one_of_two first second choice ∷ []
tokens_at ADecision how = decision how ∷ []
tokens_at ALockUse how = lock_use how ∷ []
tokens_at SomeRefs how = references how ∷ []
tokens_at AClass class = class_tokens class
tokens_at ARecord ref = at_tokens ref
tokens_at ACond cond = cond_tokens cond
tokens_at ALabel known = label_tokens known
tokens_at (AFlag word) given = flag_tokens word given
tokens_at (AnOption word place) value = option_tokens word (tokens_at place) value
tokens_at (Behind word place) value = Literal word ∷ tokens_at place value

-- ---- what a reader makes of the words at a place, and the words behind it

-- what stands behind an option's word, where the word is there
abbrev pub option_at : {V : Type 0} → List ℕ → (List (List ℕ) → Option (V × List (List ℕ))) → List (List ℕ)
    → Option (Option V × List (List ℕ))
option_at word reading words =
    if begins_with word words then option_map (λ read. (Some read.0, read.1)) (reading (words_behind words)) else Some
    (None, words)

abbrev pub flag_at : List ℕ → List (List ℕ) → Option (Bool × List (List ℕ))
flag_at word words = if begins_with word words then Some (true, words_behind words) else Some (false, words)

-- what stands behind a word that has to be there
abbrev pub behind_at : {V : Type 0} → List ℕ → (List (List ℕ) → Option (V × List (List ℕ))) → List (List ℕ)
    → Option (V × List (List ℕ))
behind_at word reading words = if begins_with word words then reading (words_behind words) else None

abbrev pub either_of : List ℕ → List ℕ → List ℕ → Option Bool
either_of first second word = if same_word word first then Some true else if same_word word second then Some false
    else None

abbrev pub decision_of : List ℕ → Option Decision
decision_of word =
    if same_word word (codes "KEEP") then Some Keep
    else if same_word word (codes "DENY") then Some Deny
    else if same_word word (codes "NOTIFY") then Some Notify
    else None

abbrev pub lock_use_of : List ℕ → Option LockUse
lock_use_of word =
    if same_word word (codes "SET") then Some Set
    else if same_word word (codes "RESET") then Some Reset
    else if same_word word (codes "TEST") then Some Test
    else None

abbrev pub refs_of : List ℕ → Option Refs
refs_of word =
    if same_word word (codes "NAMES") then Some refs.Names
    else if same_word word (codes "KEYS") then Some refs.Keys
    else if same_word word (codes "NOTHING") then Some refs.Nothing
    else None

abbrev pub number_at : Rigour → List (List ℕ) → Option (ℕ × List (List ℕ))
number_at rigour words = on_first (number_of rigour 0 4294967295) words

abbrev pub class_at : Rigour → List (List ℕ) → Option (Option ℕ × List (List ℕ))
class_at rigour words =
    if begins_with (codes "CHANGED") words then option_map (λ read. (Some read.0, read.1))
    (number_at rigour (words_behind words))
    else if begins_with (codes "UNCHANGED") words then Some (None, words_behind words)
    else None

abbrev pub cond_at : Rigour → List (List ℕ) → Option (Option Cond × List (List ℕ))
cond_at rigour words =
    if begins_with (codes "NOTHELD") words then option_map (λ read. (Some (NotHeld read.0), read.1))
    (number_at rigour (words_behind words))
    else if begins_with (codes "HELDBY") words then option_map (λ read. (Some (HeldBy read.0), read.1))
    (number_at rigour (words_behind words))
    else Some (None, words)

abbrev pub label_at : Rigour → List (List ℕ) → Option (Option Label × List (List ℕ))
label_at rigour words =
    if begins_with (codes "NAME") words
    then option_map (λ read. (Some (label.Name read.0), read.1)) (on_first (name_of rigour) (words_behind words))
    else if begins_with (codes "KEY") words
    then option_map (λ read. (Some (label.Key read.0), read.1)) (on_first (key_of rigour) (words_behind words))
    else Some (None, words)

abbrev pub key_at : Rigour → List (List ℕ) → Option (At × List (List ℕ))
key_at rigour words =
    number_at rigour words >>= (λ header. option_map (λ read. (at.Key header.0 read.0, read.1))
    (on_first (key_of rigour) header.1))

abbrev pub record_at : Rigour → List (List ℕ) → Option (At × List (List ℕ))
record_at rigour words =
    if begins_with (codes "NAME") words then option_map (λ read. (at.Name read.0, read.1))
    (on_first (name_of rigour) (words_behind words))
    else if begins_with (codes "HEAD") words then option_map (λ read. (at.Head read.0, read.1))
    (number_at rigour (words_behind words))
    else if begins_with (codes "TAIL") words then option_map (λ read. (at.Tail read.0, read.1))
    (number_at rigour (words_behind words))
    else if begins_with (codes "KEY") words then key_at rigour (words_behind words)
    else option_map (λ read. (at.Id read.0, read.1)) (on_first (record_of rigour) words)

abbrev pub value_at : Rigour → Declared → (place : Place) → List (List ℕ) → Option (Value place × List (List ℕ))
value_at rigour declared (Amount low high) words = on_first (number_of rigour low high) words
value_at rigour declared AName words = on_first (name_of rigour) words
value_at rigour declared AKey words = on_first (key_of rigour) words
value_at rigour declared AShort words = on_first (text_of rigour ADJUNCT_BYTES) words
value_at rigour declared AData words = on_first (data_of rigour) words
value_at rigour declared AResource words = on_first (resource_of rigour) words
value_at rigour declared AFacility words = on_first (facility_in rigour declared) words
value_at rigour declared ANewFacility words = on_first facility_of words
value_at rigour declared AConnector words = on_first (connector_in rigour declared) words
value_at rigour declared AStructure words = on_first (structure_in rigour declared) words
value_at rigour declared ANewName words = on_first (new_name_of rigour) words
value_at rigour declared (Either first second) words = on_first (either_of first second) words
value_at rigour declared ADecision words = on_first decision_of words
value_at rigour declared ALockUse words = on_first lock_use_of words
value_at rigour declared SomeRefs words = on_first refs_of words
value_at rigour declared AClass words = class_at rigour words
value_at rigour declared ARecord words = record_at rigour words
value_at rigour declared ACond words = cond_at rigour words
value_at rigour declared ALabel words = label_at rigour words
value_at rigour declared (AFlag word) words = flag_at word words
value_at rigour declared (AnOption word place) words = option_at word (value_at rigour declared place) words
value_at rigour declared (Behind word place) words = behind_at word (value_at rigour declared place) words

-- ---- rows of places

abbrev pub Values : List Place → Type 0
Values [] = Unit {0}
Values (place ∷ places) = Value place × Values places

abbrev pub tokens_of : (places : List Place) → Values places → List Token
tokens_of [] values = []
tokens_of (place ∷ places) values = tokens_at place values.0 ++ tokens_of places values.1

-- the values at the places, one after another, and what is made of them
abbrev pub values_at : {C : Type 0} → Rigour → Declared → (places : List Place) → (Values places → C) → List (List ℕ)
    → Option (C × List (List ℕ))
values_at rigour declared [] made words = Some (made tt, words)
values_at rigour declared (place ∷ places) made words =
    value_at rigour declared place words >>= (λ read. values_at rigour declared places
    (λ values. made (read.0, values)) read.1)
