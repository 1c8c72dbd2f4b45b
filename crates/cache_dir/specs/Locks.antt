-- The castout locks that are held, noted by the names of their rows.
use Rattle.std.specs.Prelude.{◌≡◌, ℕ, nat_eq, ◌==◌, List, Option, Some, None, option_map, if◌then◌else◌, true}
use Rattle.std.specs.List.{IsDistinct}
use Rattle.std.specs.Map.{keys_of}
use Rattle.std.specs.Cmp.Lexicographic.{pointwise}
use Rattle.cf_types.specs.declared.names.Name16.{Name16}
use Rattle.cf_types.specs.declared.numbers.ConnId.{ConnId}
use Rattle.cache_dir.specs.declared.row.Holder.{Holder}
use Rattle.cache_dir.specs.declared.row.DirRow.{DirRow}
use Rattle.cache_dir.specs.declared.dir.Dir.TheInside.{Inside}
use Rattle.cache_dir.specs.RowMap.{row_at}

-- which connector holds a castout lock, if anyone does
abbrev pub conn_of : Option Holder → Option ConnId
conn_of holder = option_map (λ (h : Holder). h.conn) holder

abbrev pub lock_of : Option DirRow → Option ConnId
lock_of None = None
lock_of (Some row) = conn_of row.holder

-- no lock where it is this connector's
abbrev pub lock_without : ConnId → Option ConnId → Option ConnId
lock_without conn None = None
lock_without conn (Some other) = if other.0 == conn.0 then None else Some other

-- under each name stands who holds the castout lock of its row
abbrev pub AreNoted : List (List ℕ × DirRow) → List (List ℕ × ConnId) → Type 0
AreNoted rows locks = (q : Name16) → row_at locks q ≡ lock_of (row_at rows q)

-- no two locks are noted under one name, and all that are held are, but where one had no room
pub record AreLocked (d : Inside) : Type 0 where
  pub unique : IsDistinct (pointwise nat_eq) (keys_of d.locks.entries)
  pub noted : d.are_noted ≡ true → AreNoted d.rows.entries d.locks.entries
