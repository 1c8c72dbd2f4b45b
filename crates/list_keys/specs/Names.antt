-- Names with the ids of the records that have them.
use Rattle.std.specs.Prelude.{◌≡◌, ℕ, nat_eq, List, Option, cond}
use Rattle.std.specs.Map.{lookup}
use Rattle.std.specs.Cmp.Lexicographic.{pointwise}
use Rattle.cf_types.specs.declared.names.Name16.{Name16}
use Rattle.cf_types.specs.declared.numbers.EntryId.{EntryId}
use Rattle.cf_types.specs.Name.{same_name}

-- the bytes of each name with the id, in whatever order
abbrev pub Named : Type 0
Named = List (List ℕ × EntryId)

-- the names, and for how many more there is room
pub record NameBatch : Type 0 where
  pub names : Named
  pub room : ℕ

-- the id of the record with a name
abbrev pub id_of : Name16 → Named → Option EntryId
id_of name names = lookup (pointwise nat_eq name.0) names

-- the names are others with an id written at one of them, or none
abbrev pub Writes : Named → Name16 → Option EntryId → Named → Type 0
Writes names name id after =
    (other : Name16) → id_of other after ≡ cond (same_name name other) id (id_of other names)
