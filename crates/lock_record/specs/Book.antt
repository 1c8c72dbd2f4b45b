-- Record data in a map by connector and resource, with room for more.
use Rattle.std.specs.Prelude.{◌≡◌, ℕ, Bool, ◌&&◌, nat_eq, ◌<◌, ◌-◌, List, length, map, min, Option, cond}
use Rattle.std.specs.List.{IsDistinct}
use Rattle.std.specs.Map.{keys_of, lookup}
use Rattle.std.specs.Cmp.Lexicographic.{pointwise}
use Rattle.indexmap.specs.IndexMap.{spare}
use Rattle.cf_types.specs.Resources.{Part}
use Rattle.cf_lists.specs.Bins.{arranged}
use Rattle.lock_record.specs.declared.recorded.Record.{Record}
use Rattle.lock_record.specs.declared.records.Records.TheInside.{Inside}
use Rattle.lock_record.specs.Recorded.{part_of, part_before}

-- a connector, a hash value and a name
abbrev pub Key : Type 0
Key = (ℕ × ℕ) × List ℕ

abbrev pub key_eq : Key → Key → Bool
key_eq x y = (nat_eq x.0.0 y.0.0 && nat_eq x.0.1 y.0.1) && pointwise nat_eq x.1 y.1

abbrev pub key_of : Part → Key
key_of p = ((p.1.0, p.0.hash), p.0.name.0)

abbrev pub part_at : Key → Part
part_at k = (record { name = record { 0 = k.1 }; hash = k.0.1 }, record { 0 = k.0.0 })

-- an entry as record data
abbrev pub recorded : Key × List ℕ → Record
recorded e = record { r = (part_at e.0).0; conn = (part_at e.0).1; rec = e.1 }

-- the record data in their order, whatever the order of the entries is
abbrev pub records_in : List (Key × List ℕ) → List Record
records_in es = arranged part_of part_before (map recorded es)

-- one map is another with data written at a part, or none
abbrev pub Writes : List (Key × List ℕ) → Part → Option (List ℕ) → List (Key × List ℕ) → Type 0
Writes es p w after =
    (q : Key) → lookup (key_eq q) after ≡ cond (key_eq (key_of p) q) w (lookup (key_eq q) es)

-- the record data, in order and as the map has them; how many the structure may have; and for how
-- many more there is room
pub record Book : Type 0 where
  pub records : List Record
  pub entries : List Record
  pub limit : ℕ
  pub room : ℕ

abbrev pub book : Inside → Book
book b =
    record {
      records = records_in b.map.entries;
      entries = map recorded b.map.entries;
      limit = b.limit;
      room = min (spare b.map) (4294967295 - length b.map.entries);
    }

-- each part once, and fewer than 2^32, so that their number is one of 32 bits
pub record IsKept (b : Inside) : Type 0 where
  pub unique : IsDistinct key_eq (keys_of b.map.entries)
  pub few : length b.map.entries < 4294967296
