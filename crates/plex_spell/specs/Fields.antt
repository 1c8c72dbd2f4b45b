-- The tokens of single values, and of options of commands.
use Rattle.std.specs.Prelude.{ℕ, Bool, true, false, List, [], ◌∷◌, ◌++◌, Option, None, Some, codes}
use Rattle.cf_types.specs.declared.names.Name16.{Name16}
use Rattle.cf_types.specs.declared.names.Key16.{Key16}
use Rattle.cf_types.specs.declared.forms.Refs.{Refs}
use Rattle.cf_types.specs.declared.forms.Refs.TheVariants as refs
use Rattle.plex_spell.specs.Tokens.{Token}
use Rattle.plex_spell.specs.Tokens.Token.{Literal, Number, Term, Short, Data}

-- one after another
abbrev pub all_tokens : List (List Token) → List Token
all_tokens [] = []
all_tokens (part ∷ parts) = part ++ all_tokens parts

-- a number of 32 bits
abbrev pub number : ℕ → Token
number n = Number 0 4294967295 n

abbrev pub name_tokens : Name16 → List Token
name_tokens name = Term name.0 ∷ []

abbrev pub key_tokens : Key16 → List Token
key_tokens key = Term key.0 ∷ []

abbrev pub number_tokens : ℕ → List Token
number_tokens n = number n ∷ []

-- the version of a list record, from 1
abbrev pub version_tokens : ℕ → List Token
version_tokens n = Number 1 4294967295 n ∷ []

abbrev pub short_tokens : List ℕ → List Token
short_tokens text = Short text ∷ []

abbrev pub data_tokens : List ℕ → List Token
data_tokens text = Data text ∷ []

-- an option of a command: its word and what stands behind it, where it is given
abbrev pub option_tokens : {X : Type 0} → List ℕ → (X → List Token) → Option X → List Token
option_tokens word tokens None = []
option_tokens word tokens (Some x) = Literal word ∷ tokens x

abbrev pub flag_tokens : List ℕ → Bool → List Token
flag_tokens word false = []
flag_tokens word true = Literal word ∷ []

-- the first word for true, the second for false
abbrev pub one_of_two : List ℕ → List ℕ → Bool → Token
one_of_two first second false = Literal second
one_of_two first second true = Literal first

-- the place of a list record, and the state of a lock
abbrev pub end : Bool → Token
end head = one_of_two (codes "HEAD") (codes "TAIL") head

abbrev pub state : Bool → Token
state excl = one_of_two (codes "EXCL") (codes "SHR") excl

abbrev pub disposition : Bool → Token
disposition keep = one_of_two (codes "KEEP") (codes "DELETE") keep

-- what the records of a list structure are known by
abbrev pub references : Refs → Token
references refs.Names = Literal (codes "NAMES")
references refs.Keys = Literal (codes "KEYS")
references refs.Nothing = Literal (codes "NOTHING")
