-- The rows of a directory with their data, as contracts see them.
use Rattle.std.specs.Prelude.{ℕ, List}
use Rattle.cache_model.specs.CacheDir.RowMap.{row_at}
use Rattle.cache_model.specs.declared.items.CacheItem.{CacheItem}
use Rattle.cache_rows.specs.declared.store.Store.TheInside.{Inside}
use Rattle.cache_rows.specs.Stored.{entries_in, AreStored}

-- the rows with the bytes of their names, in whatever order, for how many more there is room, and how many elements
-- are free
pub record StoreView : Type 0 where
  pub entries : List (List ℕ × CacheItem)
  pub room : ℕ
  pub free : ℕ

abbrev pub store_view : Inside → StoreView
store_view s =
    record { entries = entries_in s.pool.chains s.dir.entries; room = s.dir.room; free = s.pool.free }

abbrev pub IsStore : Inside → Type 0
IsStore s = AreStored s.pool.chains (row_at s.dir.entries)
