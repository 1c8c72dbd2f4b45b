-- The words of the form of a structure, behind its name.
use Rattle.std.specs.Prelude.{ℕ, List, [], ◌∷◌, codes}
use Rattle.cf_types.specs.declared.limits.TheConstants.{CONNECTORS, VECTOR_BITS, HEADERS, LIST_LOCKS}
use Rattle.cf_types.specs.declared.forms.Kind.{Kind}
use Rattle.cf_types.specs.declared.forms.Kind.TheVariants as kind
use Rattle.cf_types.specs.declared.forms.StrForm.{StrForm}
use Rattle.plex_spell.specs.Tokens.{Token}
use Rattle.plex_spell.specs.Tokens.Token.{Literal, Number}
use Rattle.plex_spell.specs.Fields.{disposition, references}
use Rattle.plex_spell.specs.ShellWords.{amount}

abbrev pub connections : ℕ → Token
connections n = Number 1 CONNECTORS n

abbrev pub vector_bits : ℕ → Token
vector_bits n = Number 1 VECTOR_BITS n

-- what stands behind the name of a structure
abbrev pub form_tokens : Kind → StrForm → List Token
form_tokens kind.Cache form =
    Literal (codes "CACHE") ∷ amount form.caps.entries ∷ amount form.caps.elements ∷ connections form.conns
    ∷ vector_bits form.vector ∷ disposition form.keep ∷ []
form_tokens (kind.List headers locks refs) form =
    Literal (codes "LIST") ∷ amount form.caps.entries ∷ amount form.caps.elements ∷ connections form.conns
    ∷ vector_bits form.vector ∷ disposition form.keep ∷ Number 1 HEADERS headers ∷ Number 0 LIST_LOCKS locks
    ∷ references refs ∷ []
form_tokens kind.Lock form =
    Literal (codes "LOCK") ∷ amount form.caps.entries ∷ amount form.caps.elements ∷ connections form.conns
    ∷ disposition form.keep ∷ []
