-- Rows with room for more, up to a number that there may be, and to a number of elements for their data.
use Rattle.std.specs.Prelude.{◌≡◌, ℕ, List, min, ◌+◌, ◌-◌}
use Rattle.cache_model.specs.declared.items.CacheItem.{CacheItem}
use Rattle.cache_rows.specs.declared.rows.Rows.TheInside.{Inside}
use Rattle.cache_rows.specs.Totals.{IsTotals}

pub record RowBatch : Type 0 where
  pub rows : List CacheItem
  pub room : ℕ
  pub entries : ℕ
  pub elements : ℕ

-- for how many more there is room: in the directory, and below the number that there may be
abbrev pub room_of : Inside → ℕ
room_of r = min r.directory.room (r.entries - r.totals.tally.rows)

abbrev pub batch_of : Inside → RowBatch
batch_of r =
    record { rows = r.directory.rows; room = room_of r; entries = r.entries; elements = r.elements }

-- what is counted is that of the rows, and each element holds data of one of them or is free
pub record IsKept (r : Inside) : Type 0 where
  pub totals : IsTotals r.totals r.directory.rows
  pub limit : r.directory.entries ≡ r.entries
  pub all : r.directory.free + r.totals.tally.elements ≡ r.elements
