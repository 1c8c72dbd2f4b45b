-- A directory as a map from names to rows.
use Rattle.std.specs.Prelude.{◌≡◌, ◌==◌, ℕ, nat_eq, Bool, false, List, Option, None, Some, if◌then◌else◌}
use Rattle.std.specs.Map.{lookup}
use Rattle.std.specs.Cmp.Lexicographic.{pointwise}
use Rattle.indexmap.specs.IndexMap.{spare}
use Rattle.cf_types.specs.declared.names.Name16.{Name16}
use Rattle.cf_types.specs.declared.numbers.ConnId.{ConnId}
use Rattle.cf_types.specs.Name.{same_name}
use Rattle.cache_dir.specs.declared.row.DirRow.{DirRow}
use Rattle.cache_dir.specs.declared.row.Holder.{Holder}
use Rattle.cache_dir.specs.declared.dir.Dir.TheInside.{Inside}

-- the rows with the bytes of their names, in whatever order, and for how many more there is room, held or not
pub record RowMap : Type 0 where
  pub entries : List (List ℕ × DirRow)
  pub room : ℕ

abbrev pub row_map : Inside → RowMap
row_map d = record { entries = d.rows.entries; room = spare d.rows }

-- a connector holds the castout lock
abbrev pub is_held_by : ConnId → Option Holder → Bool
is_held_by conn None = false
is_held_by conn (Some holder) = holder.conn.0 == conn.0

-- a connector's castout lock is released
abbrev pub let_go : ConnId → DirRow → DirRow
let_go conn row = record row { holder = if is_held_by conn row.holder then None else row.holder }

module _ {X : Type 0} where
  -- the row of a name, if it has one
  abbrev pub row_at : List (List ℕ × X) → Name16 → Option X
  row_at entries name = lookup (pointwise nat_eq name.0) entries

  -- one map is another with a row at a name, or none
  abbrev pub Writes : (Name16 → Option X) → Name16 → Option X → (Name16 → Option X) → Type 0
  Writes before name row after = (q : Name16) → after q ≡ (if same_name name q then row else before q)
