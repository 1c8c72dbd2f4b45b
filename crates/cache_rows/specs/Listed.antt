-- Rows that are found by name, in the order that their indexes give.
use Rattle.std.specs.Prelude.{◌≡◌, ℕ, ◌++◌, ◌||◌, not, IsTrue, List, Option, Some, None, filter, length, map, min, option_to_list, slice_get, unwrap_or}
use Rattle.cf_lists.specs.Pairwise.{pairwise}
use Rattle.cf_types.specs.declared.names.Name16.{Name16}
use Rattle.cache_classes.specs.declared.changed.Changed.{Changed}
use Rattle.cache_reclaim.specs.declared.used.Used.{Used}
use Rattle.cache_model.specs.CacheDir.RowMap.{row_at}
use Rattle.cache_model.specs.declared.items.CacheItem.{CacheItem}
use Rattle.cache_model.specs.Rows.{is_row_of, rows_replaced, row_of, new_row, names_apart, has_storage}
use Rattle.cache_model.specs.Contents.{is_among}
use Rattle.cache_rows.specs.declared.directory.Directory.TheInside.{Inside}
use Rattle.cache_rows.specs.declared.label.Label.{Label}
use Rattle.cache_rows.specs.Stored.{item_with, body_of}
use Rattle.cache_rows.specs.Indexes.{classes_of, order_of, changed_first}

-- the rows, for how many more there is room, how many unchanged ones there may be, and how many elements are free
pub record Listed : Type 0 where
  pub rows : List CacheItem
  pub room : ℕ
  pub entries : ℕ
  pub free : ℕ

-- the row of a name that has one
abbrev pub row_or : (Name16 → Option CacheItem) → Name16 → CacheItem
row_or at name = unwrap_or (at name) (new_row name 1)

abbrev pub changed_in : (Name16 → Option CacheItem) → List Changed → List CacheItem
changed_in at names = map (λ changed. row_or at changed.name) names

abbrev pub unchanged_in : (Name16 → Option CacheItem) → List Used → List CacheItem
unchanged_in at used = map (λ one. row_or at one.name) used

-- first the changed rows in the order of names, then the others from least to most recently used
abbrev pub rows_in : (Name16 → Option CacheItem) → List Changed → List Used → List CacheItem
rows_in at names used = changed_in at names ++ unchanged_in at used

-- a list of rows is what a map from names and the two indexes hold
pub record IsIndexed (rows : List CacheItem) (at : Name16 → Option CacheItem) (names : List Changed)
    (used : List Used) : Type 0 where
  pub changed_front : IsTrue (pairwise changed_first rows)
  pub one_for_name : IsTrue (pairwise names_apart rows)
  pub classed : names ≡ classes_of rows
  pub ordered : used ≡ order_of rows
  pub found : (name : Name16) → at name ≡ row_of name rows

abbrev pub listed_of : Inside → Listed
listed_of d =
    record {
      rows = rows_in (row_at d.store.entries) d.classes.names d.order.order;
      room = min d.store.room (min d.classes.room d.order.room);
      entries = d.order.entries;
      free = d.store.free;
    }

abbrev pub AreListed : Inside → Type 0
AreListed d =
    IsIndexed (rows_in (row_at d.store.entries) d.classes.names d.order.order) (row_at d.store.entries)
    d.classes.names d.order.order

-- whether the changed row at a place is of a storage class, as a number
abbrev pub counts_at : ℕ → (Name16 → Option CacheItem) → List Changed → ℕ → ℕ
counts_at stg at names k =
    length (filter (λ changed. has_storage stg (row_or at changed.name)) (option_to_list (slice_get names k)))

-- a row takes its place anew, where there is one
abbrev pub retaken : Option CacheItem → List CacheItem → List CacheItem
retaken None rows = rows
retaken (Some row) rows = rows_replaced row rows

-- the row of a name with the data that the name has
abbrev pub relabeled : Label → List CacheItem → CacheItem
relabeled label rows = item_with label (body_of (row_of label.name rows))

-- without the rows of these names, but for that of the one that is spared
abbrev pub rows_but : Name16 → List Name16 → List CacheItem → List CacheItem
rows_but spared names rows = filter (λ row. is_row_of spared row || not (is_among names row.name)) rows
