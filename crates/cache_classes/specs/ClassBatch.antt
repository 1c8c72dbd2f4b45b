-- Changed names in a map, with room for more.
use Rattle.std.specs.Prelude.{◌≡◌, ℕ, nat_eq, List, length, map, min, Option, if◌then◌else◌, ◌-◌, ◌<◌}
use Rattle.std.specs.List.{IsDistinct}
use Rattle.std.specs.Map.{keys_of, lookup}
use Rattle.std.specs.Cmp.Lexicographic.{pointwise}
use Rattle.indexmap.specs.IndexMap.{spare}
use Rattle.cf_types.specs.declared.names.Name16.{Name16}
use Rattle.cf_types.specs.Name.{same_name, name_before}
use Rattle.cf_lists.specs.Bins.{arranged}
use Rattle.cache_classes.specs.declared.changed.Changed.{Changed}
use Rattle.cache_classes.specs.declared.classes.Classes.TheInside.{Inside}
use Rattle.cache_classes.specs.Castout.{name_of}

-- an entry: the bytes of a name, and its class
abbrev pub Entry : Type 0
Entry = List ℕ × ℕ

abbrev pub changed_at : Entry → Changed
changed_at e = record { name = record { 0 = e.0 }; class = e.1 }

-- the names with their classes as they lie in the map, and in their order
abbrev pub entries_in : List Entry → List Changed
entries_in es = map changed_at es

abbrev pub classes_in : List Entry → List Changed
classes_in es = arranged name_of name_before (entries_in es)

-- one map is another with a class written at a name, or none
abbrev pub Writes : List Entry → Name16 → Option ℕ → List Entry → Type 0
Writes es name w after =
    (q : Name16) → lookup (pointwise nat_eq q.0) after
    ≡ (if same_name name q then w else lookup (pointwise nat_eq q.0) es)

-- the names with their classes, in order and as the map has them, and for how many more there is room
pub record ClassBatch : Type 0 where
  pub names : List Changed
  pub entries : List Changed
  pub room : ℕ

abbrev pub batch_of : Inside → ClassBatch
batch_of c =
    record {
      names = classes_in c.map.entries;
      entries = entries_in c.map.entries;
      room = min (spare c.map) (4294967295 - length c.map.entries);
    }

-- each name once, and fewer than 2^32, so that their number is one of 32 bits
pub record IsKept (c : Inside) : Type 0 where
  pub unique : IsDistinct (pointwise nat_eq) (keys_of c.map.entries)
  pub few : length c.map.entries < 4294967296
