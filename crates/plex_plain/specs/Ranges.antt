-- Values that a line of a script can say: texts in their form, numbers in their range, names that are declared.
use Rattle.std.specs.Prelude.{ℕ, ◌<◌, ◌≤◌, ◌≢◌, IsTrue, List, [], ◌∷◌, length, All, AllPairs}
use Rattle.cf_types.specs.declared.limits.TheConstants.{ADJUNCT_BYTES, BODY_BYTES}
use Rattle.cf_types.specs.declared.names.Name16.{Name16}
use Rattle.cf_types.specs.declared.numbers.ConnId.{ConnId}
use Rattle.cf_types.specs.Forms.{IsFacility}
use Rattle.cf_types.specs.Term.{IsTerm, IsPadded}
use Rattle.plex_spell.specs.Tokens.{Declared, Token, is_name, name_word, is_declared}
use Rattle.plex_spell.specs.Tokens.Token.{Literal, Number, Term, Short, Data, OnResource, Record, OfFacility, OfConnector, OfStructure, NewFacility, NewName}

-- the name of a structure or a connector
abbrev pub IsNamed : Name16 → Type 0
IsNamed name = IsPadded name.0 × IsTrue (is_name (name_word name))

-- names of structures or of connectors, each once
abbrev pub AreNames : List Name16 → Type 0
AreNames names = All IsNamed names × AllPairs (λ one other. one ≢ other) names

-- a connector of so many
abbrev pub IsOneOf : ℕ → ConnId → Type 0
IsOneOf count conn = (1 ≤ conn.0) × (conn.0 ≤ count)

-- the token is in its form and its range, and what it names is declared
abbrev pub IsWithin : Declared → Token → Type 0
IsWithin declared (Literal text) = Unit {0}
IsWithin declared (Number low high n) = (low ≤ n) × (n ≤ high)
IsWithin declared (Term bytes) = IsPadded bytes
IsWithin declared (Short text) = IsTerm ADJUNCT_BYTES text
IsWithin declared (Data text) = IsTerm BODY_BYTES text
IsWithin declared (OnResource r) = IsPadded r.name.0 × (r.hash ≤ 4294967295)
IsWithin declared (Record id) = (1 ≤ id.0) × (id.0 ≤ 4294967295)
IsWithin declared (OfFacility cf) = IsFacility cf × IsTrue (is_declared declared.facilities cf)
IsWithin declared (OfConnector conn) = IsOneOf (length declared.connectors) conn
IsWithin declared (OfStructure on) = on.0 < length declared.structures
IsWithin declared (NewFacility cf) = IsFacility cf
IsWithin declared (NewName name) = IsNamed name

abbrev pub AreWithin : Declared → List Token → Type 0
AreWithin declared [] = Unit {0}
AreWithin declared (token ∷ tokens) = IsWithin declared token × AreWithin declared tokens
