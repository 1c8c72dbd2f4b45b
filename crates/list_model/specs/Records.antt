-- A record of a list structure.
use Rattle.std.specs.Prelude.{ℕ, ◌+◌, Bool, false, not, ◌&&◌, nat_lt, if◌then◌else◌, List, Option, Some, None, is_some, is_none, sum_by}
use Rattle.cf_types.specs.declared.forms.Refs.{Refs}
use Rattle.cf_types.specs.declared.forms.Refs.TheVariants as refs
use Rattle.cf_types.specs.declared.names.Key16.{Key16}
use Rattle.cf_types.specs.declared.names.Name16.{Name16}
use Rattle.cf_types.specs.Name.{same_name}
use Rattle.list_store.specs.Record.{Record}
use Rattle.list_model.specs.Keys.{same_key, key_up_to}
pub use Rattle.cf_types.specs.Stored.{elements_of}

abbrev pub has_name : Name16 → Record → Bool
has_name name rec = is_it rec.name
  where
    is_it : Option Name16 → Bool
    is_it None = false
    is_it (Some other) = same_name other name

abbrev pub has_key : Key16 → Record → Bool
has_key key rec = is_it rec.key
  where
    is_it : Option Key16 → Bool
    is_it None = false
    is_it (Some other) = same_key other key

-- the version after an update: one greater, and 1 after the greatest
abbrev pub next_version : ℕ → ℕ
next_version version = if nat_lt version 4294967295 then version + 1 else 1

abbrev pub elements_in : List Record → ℕ
elements_in recs = sum_by (λ rec. elements_of rec.body) recs

-- the name and the key that the records of a structure have, by what they are known by
abbrev pub is_reference : Refs → Option Name16 → Option Key16 → Bool
is_reference refs.Names name key = is_some name && is_none key
is_reference refs.Keys name key = is_none name && is_some key
is_reference refs.Nothing name key = is_none name && is_none key

abbrev pub is_known : Refs → Record → Bool
is_known refs rec = is_reference refs rec.name rec.key

-- they don't have the same name
abbrev pub names_apart : Record → Record → Bool
names_apart rec other = are_apart rec.name
  where
    are_apart : Option Name16 → Bool
    are_apart None = Bool.true
    are_apart (Some name) = not (has_name name other)

-- the first has no later key
abbrev pub may_precede : Record → Record → Bool
may_precede rec other = key_up_to rec.key other.key
