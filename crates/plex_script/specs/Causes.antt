-- What is wrong with a line, given what stands before it.
use Rattle.std.specs.Prelude.{ℕ, ◌+◌, ◌<◌, ◌==◌, ◌&&◌, ◌||◌, Bool, false, not, IsTrue, MatchBool, if◌then◌else◌, List, [], ◌∷◌, length, Option, Some, codes, nat_lt, nat_le, slice_get, sum_by, ◌⊎◌}
use Rattle.std.specs.List.{list_any, flat_map}
use Rattle.std.specs.Option.{MatchOption, option_map_or}
use Rattle.cf_types.specs.declared.limits.TheConstants.{LINE_BYTES, NAME_BYTES, STRUCTURES, CONNECTORS}
use Rattle.cf_types.specs.declared.names.Name16.{Name16}
use Rattle.cf_types.specs.declared.numbers.ConnId.{ConnId}
use Rattle.cf_types.specs.declared.numbers.CfId.{CfId}
use Rattle.cf_types.specs.declared.numbers.StrNo.{StrNo}
use Rattle.cf_types.specs.declared.forms.Kind.{Kind}
use Rattle.cf_types.specs.declared.forms.Kind.TheVariants as kind
use Rattle.cf_types.specs.declared.forms.Pref.{Pref}
use Rattle.cf_types.specs.declared.forms.StrForm.{StrForm}
use Rattle.plex_plain.specs.PlexSpell.declared.rigour.Rigour.TheVariants.{Form, Limits, Names}
use Rattle.plex_plain.specs.PlexSpell.Words.{same_word, words_of}
use Rattle.plex_plain.specs.PlexSpell.Tokens.{Declared, is_name, name_word, connector_of, structure_of, is_declared}
use Rattle.plex_script.specs.declared.declarations.Declaration.{Declaration}
use Rattle.plex_script.specs.declared.declarations.Declaration.TheVariants as declaration
use Rattle.plex_script.specs.declared.faults.Why.{Why}
use Rattle.plex_script.specs.declared.faults.Why.TheVariants.{Late, Syntax, Limit, Unknown, Twice, Space}
use Rattle.plex_script.specs.declared.scripts.Act.{Act}
use Rattle.plex_script.specs.declared.scripts.Script.{Script}
use Rattle.plex_script.specs.LineWords.{SaysDone}
use Rattle.plex_script.specs.PolicyWords.{Declares}

-- ---- what stands before a line

abbrev pub declared_in : Script → Declared
declared_in script = record {
  facilities = script.facilities;
  structures = script.structures;
  connectors =
      script.connectors;
}

-- the policy has ended
abbrev pub has_lines : Script → Bool
has_lines script = nat_lt 0 (length script.lines)

abbrev pub kind_of : List StrForm → StrNo → Kind
kind_of structures on = option_map_or (λ (form : StrForm). form.kind) (slice_get structures on.0) kind.Cache

-- who is meant by the first word: the operator, or a connector
abbrev pub caller_of : List Name16 → List ℕ → Option ConnId
caller_of connectors word = if same_word word (codes "OP") then Some (record { 0 = 0 }) else connector_of connectors
    word

-- ---- sorts of lines

-- a line that is too long
abbrev pub is_long : List ℕ → Bool
is_long line = nat_lt LINE_BYTES (length line)

-- a word that is too long for a name
abbrev pub is_long_name : List ℕ → Bool
is_long_name word = nat_lt NAME_BYTES (length word)

abbrev pub is_comment : List ℕ → Bool
is_comment [] = false
is_comment (b ∷ bs) = b == 42

abbrev pub policy_words : List (List ℕ)
policy_words = codes "FACILITY" ∷ codes "STRUCTURE" ∷ codes "PREF" ∷ codes "CONNECTOR" ∷ []

abbrev pub is_policy_word : List ℕ → Bool
is_policy_word word = list_any (same_word word) policy_words

-- ---- declarations

-- one more structure, or connector, than there may be
abbrev pub is_full : Script → List ℕ → Bool
is_full script word =
    (same_word word (codes "STRUCTURE") && nat_le STRUCTURES (length script.structures))
    || (same_word word (codes "CONNECTOR") && nat_le CONNECTORS (length script.connectors))

abbrev pub has_pref : List StrForm → StrNo → CfId → Bool
has_pref structures on cf = option_map_or (λ (form : StrForm). is_declared form.prefs cf) (slice_get structures on.0)
    false

-- it is declared already
abbrev pub is_twice : Script → Declaration → Bool
is_twice script (declaration.Facility pref) = is_declared script.facilities pref.cf
is_twice script (declaration.Structure form) = list_any (λ other. same_word (name_word other.name)
    (name_word form.name)) script.structures
is_twice script (declaration.Pref on pref) = has_pref script.structures on pref.cf
is_twice script (declaration.Connector name) = list_any (λ other. same_word (name_word other) (name_word name))
    script.connectors

-- the units that a facility has
abbrev pub facility_units : List Pref → CfId → ℕ
facility_units [] cf = 0
facility_units (facility ∷ facilities) cf = if facility.cf.0 == cf.0 then facility.units else facility_units
    facilities cf

-- the units of a facility that these set aside
abbrev pub units_of : List Pref → CfId → ℕ
units_of prefs cf = sum_by (λ (pref : Pref). if pref.cf.0 == cf.0 then pref.units else 0) prefs

abbrev pub all_prefs : List StrForm → List Pref
all_prefs structures = flat_map (λ form. form.prefs) structures

-- more units of the facility would be set aside than it has
abbrev pub is_too_much : Script → Declaration → Bool
is_too_much script (declaration.Facility pref) = false
is_too_much script (declaration.Structure form) = false
is_too_much script (declaration.Pref on pref) =
    nat_lt (facility_units script.facilities pref.cf) (units_of (all_prefs script.structures) pref.cf + pref.units)
is_too_much script (declaration.Connector name) = false

-- ---- causes

-- a line without words, and a comment
abbrev pub EmptyCause : Bool → Why → Type 0
EmptyCause long Late = ⊥
EmptyCause long Syntax = ⊥
EmptyCause long Limit = IsTrue long
EmptyCause long Unknown = ⊥
EmptyCause long Twice = ⊥
EmptyCause long Space = ⊥

-- a line of the policy
abbrev pub PolicyCause : Script → Bool → List ℕ → List (List ℕ) → Why → Type 0
PolicyCause script long first words Late = IsTrue (has_lines script)
PolicyCause script long first words Syntax = (d : Declaration) → Declares Form (declared_in script) words d → ⊥
PolicyCause script long first words Limit =
    IsTrue (long || is_full script first) ⊎ ((d : Declaration) → Declares Limits (declared_in script) words d → ⊥)
PolicyCause script long first words Unknown = (d : Declaration) → Declares Names (declared_in script) words d → ⊥
PolicyCause script long first words Twice =
    (d : Declaration) × Declares Names (declared_in script) words d × IsTrue (is_twice script d)
PolicyCause script long first words Space =
    (d : Declaration) × Declares Names (declared_in script) words d × IsTrue (is_too_much script d)

-- a line whose first word is strange: no word of the policy, no connector and not OP
abbrev pub StrangeCause : Script → Bool → List ℕ → List (List ℕ) → Why → Type 0
StrangeCause script long first words Late = ⊥
StrangeCause script long first words Syntax = IsTrue (not (is_name first) || nat_lt (length words) 2
    || not (has_lines script))
StrangeCause script long first words Limit = IsTrue (long || is_long_name first)
StrangeCause script long first words Unknown = Unit {0}
StrangeCause script long first words Twice = ⊥
StrangeCause script long first words Space = ⊥

-- a line of this caller for a structure that isn't declared
abbrev pub NoStructureCause : Bool → List ℕ → Why → Type 0
NoStructureCause long second Late = ⊥
NoStructureCause long second Syntax = IsTrue (not (is_name second))
NoStructureCause long second Limit = IsTrue (long || is_long_name second)
NoStructureCause long second Unknown = Unit {0}
NoStructureCause long second Twice = ⊥
NoStructureCause long second Space = ⊥

-- a line of this caller for a structure of this kind
abbrev pub DoneCause : Declared → Bool → ConnId → Kind → List (List ℕ) → Why → Type 0
DoneCause declared long by kind words Late = ⊥
DoneCause declared long by kind words Syntax = (act : Act) (retry : ℕ) → SaysDone Form declared by kind words act
    retry → ⊥
DoneCause declared long by kind words Limit =
    IsTrue long ⊎ ((act : Act) (retry : ℕ) → SaysDone Limits declared by kind words act retry → ⊥)
DoneCause declared long by kind words Unknown = (act : Act) (retry : ℕ) → SaysDone Names declared by kind words act
    retry → ⊥
DoneCause declared long by kind words Twice = ⊥
DoneCause declared long by kind words Space = ⊥

-- a caller alone is no line
abbrev pub AloneCause : Why → Type 0
AloneCause Late = ⊥
AloneCause Syntax = Unit {0}
AloneCause Limit = ⊥
AloneCause Unknown = ⊥
AloneCause Twice = ⊥
AloneCause Space = ⊥

abbrev pub CallerCause : Script → Bool → ConnId → List (List ℕ) → Why → Type 0
CallerCause script long by [] why = AloneCause why
CallerCause script long by (second ∷ words) why =
    MatchOption (structure_of script.structures second) (NoStructureCause long second why)
    (λ on. DoneCause (declared_in script) long by (kind_of script.structures on) words why)

-- what may be wrong with a line: each test by itself
abbrev pub LineCause : Script → List ℕ → Why → Type 0
LineCause script line why = wrong (words_of line)
  where
    wrong : List (List ℕ) → Type 0
    wrong [] = EmptyCause (is_long line) why
    wrong (first ∷ words) =
        MatchBool (is_comment first) (EmptyCause (is_long line) why)
        (MatchBool (is_policy_word first) (PolicyCause script (is_long line) first (first ∷ words) why)
        (MatchOption (caller_of script.connectors first) (StrangeCause script (is_long line) first words why)
        (λ by. CallerCause script (is_long line) by words why)))

-- the order in which the causes are tried
abbrev pub rank : Why → ℕ
rank Late = 0
rank Syntax = 1
rank Limit = 2
rank Unknown = 3
rank Twice = 4
rank Space = 5

-- of these causes the first that holds
pub record IsFirst (holds : Why → Type 0) (why : Why) : Type 0 where
  pub here : holds why
  pub none : (other : Why) → rank other < rank why → holds other → ⊥

abbrev pub IsCause : Script → List ℕ → Why → Type 0
IsCause script line why = IsFirst (LineCause script line) why

-- of the tests for a word that nothing is declared for: its form, its length, and then that
abbrev pub strange_why : Bool → Bool → Why
strange_why unformed long = if unformed then Syntax else if long then Limit else Unknown
