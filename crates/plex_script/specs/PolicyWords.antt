-- The words of the lines of a policy.
use Rattle.std.specs.Prelude.{◌≡◌, ℕ, List, [], ◌∷◌, codes}
use Rattle.cf_types.specs.declared.limits.TheConstants.{UNITS}
use Rattle.cf_types.specs.declared.forms.Kind.{Kind}
use Rattle.cf_types.specs.declared.forms.Kind.TheVariants as kind
use Rattle.plex_plain.specs.PlexSpell.declared.rigour.Rigour.{Rigour}
use Rattle.plex_plain.specs.PlexSpell.Tokens.{Declared, Token, Spells}
use Rattle.plex_plain.specs.PlexSpell.Tokens.Token.{Literal, NewFacility, NewName, Number, OfFacility, OfStructure}
use Rattle.plex_plain.specs.PlexSpell.FormWords.{form_tokens}
use Rattle.plex_script.specs.declared.declarations.Declaration.{Declaration}
use Rattle.plex_script.specs.declared.declarations.Declaration.TheVariants.{Facility, Structure, Pref, Connector}

-- units of a facility
abbrev pub units : ℕ → Token
units n = Number 1 UNITS n

abbrev pub declaration_tokens : Declaration → List Token
declaration_tokens (Facility pref) = Literal (codes "FACILITY") ∷ NewFacility pref.cf ∷ units pref.units ∷ []
declaration_tokens (Structure form) = Literal (codes "STRUCTURE") ∷ NewName form.name ∷ form_tokens form.kind form
declaration_tokens (Pref on pref) =
    Literal (codes "PREF") ∷ OfStructure on ∷ OfFacility pref.cf ∷ units pref.units ∷ []
declaration_tokens (Connector name) = Literal (codes "CONNECTOR") ∷ NewName name ∷ []

-- a lock structure has vectors of length 0
abbrev pub IsVectorTold : Kind → ℕ → Type 0
IsVectorTold kind.Cache vector = Unit {0}
IsVectorTold (kind.List headers locks refs) vector = Unit {0}
IsVectorTold kind.Lock vector = vector ≡ 0

-- a structure's line sets no facility aside
abbrev pub IsDeclaration : Declaration → Type 0
IsDeclaration (Facility pref) = Unit {0}
IsDeclaration (Structure form) = (form.prefs ≡ []) × IsVectorTold form.kind form.vector
IsDeclaration (Pref on pref) = Unit {0}
IsDeclaration (Connector name) = Unit {0}

-- the words declare this
pub record Declares (rigour : Rigour) (declared : Declared) (words : List (List ℕ)) (declaration : Declaration) : Type
    0 where
  pub whole : IsDeclaration declaration
  pub spelled : Spells rigour declared (declaration_tokens declaration) words []
