-- Which names records have, and how many elements their data take.
use Rattle.std.specs.Prelude.{◌≡◌, Bool, false, List, Option, Some, None, cond, find, option_map}
use Rattle.cf_types.specs.declared.names.Name16.{Name16}
use Rattle.cf_types.specs.declared.numbers.EntryId.{EntryId}
use Rattle.cf_types.specs.Name.{same_name}
use Rattle.list_keys.specs.Names.{Named, id_of}
use Rattle.list_store.specs.Record.{Record}
use Rattle.list_model.specs.Records.{has_name}

-- a name is that which a record has, if it has one
abbrev pub is_its : Option Name16 → Name16 → Bool
is_its None other = false
is_its (Some name) other = same_name name other

-- for each name the id of the record that has it
abbrev pub AreNamed : Named → List Record → Type 0
AreNamed names records =
    (name : Name16) → id_of name names ≡ option_map (λ rec. rec.id) (find (has_name name) records)

-- the names are others with an id written at a record's name, or none, if the record has a name
abbrev pub WritesIts : Named → Option Name16 → Option EntryId → Named → Type 0
WritesIts names name id after =
    (other : Name16) → id_of other after ≡ cond (is_its name other) id (id_of other names)
