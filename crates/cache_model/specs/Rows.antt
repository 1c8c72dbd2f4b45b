-- An entry of the directory, and the directory as a list of rows. The rows stand in one order: the changed ones by
-- name, then the unchanged ones from least to most recently used.
use Rattle.std.specs.Prelude.{ℕ, Bool, IsTrue, true, false, not, ◌&&◌, ◌||◌, ◌==◌, if◌then◌else◌, List, [], ◌∷◌, ◌++◌, Option, Some, None, is_some, is_none, unwrap_or, filter, find, sum_by}
use Rattle.std.specs.List.{list_any, list_all}
use Rattle.cf_types.specs.declared.names.Name16.{Name16}
use Rattle.cf_types.specs.Name.{same_name, name_before}
use Rattle.cf_lists.specs.Pairwise.{pairwise}
use Rattle.cf_lists.specs.Insertions.{insertion}
use Rattle.cache_model.specs.declared.items.CacheItem.{CacheItem}
pub use Rattle.cf_types.specs.Stored.{elements_of}
pub use Rattle.cache_dir.specs.RowMap.{is_held_by}

abbrev pub is_row_of : Name16 → CacheItem → Bool
is_row_of name row = same_name row.name name

-- a row is changed where it has a castout class: its data are newer than those of the permanent store
abbrev pub is_changed : CacheItem → Bool
is_changed row = is_some row.class

abbrev pub elements_in : List CacheItem → ℕ
elements_in rows = sum_by (λ row. elements_of row.body) rows

-- the row of a name
abbrev pub row_of : Name16 → List CacheItem → Option CacheItem
row_of name rows = find (is_row_of name) rows

abbrev pub has_row : Name16 → List CacheItem → Bool
has_row name rows = list_any (is_row_of name) rows

-- the rows of all other names
abbrev pub rows_without : Name16 → List CacheItem → List CacheItem
rows_without name rows = filter (λ row. not (is_row_of name row)) rows

-- which rows stand before a changed one: the changed ones with an earlier name
abbrev pub stands_before : CacheItem → CacheItem → Bool
stands_before row other = is_changed other && name_before other.name row.name

-- one row more, in its place: a changed one by its name, an unchanged one as the most recently used
abbrev pub rows_with : CacheItem → List CacheItem → List CacheItem
rows_with row rows = if is_changed row then insertion (stands_before row) row rows else rows ++ row ∷ []

-- this row in place of the row of its name, if there is one
abbrev pub rows_replaced : CacheItem → List CacheItem → List CacheItem
rows_replaced row rows = rows_with row (rows_without row.name rows)

-- the row of a name, or a new one: unchanged, without data, of this storage class
abbrev pub new_row : Name16 → ℕ → CacheItem
new_row name stg = record { name = name; body = None; adj = None; class = None; holder = None; stg = stg }

abbrev pub row_or_new : Name16 → ℕ → List CacheItem → CacheItem
row_or_new name stg rows = unwrap_or (row_of name rows) (new_row name stg)

-- the changed rows of a castout class; the rows of a storage class
abbrev pub has_class : ℕ → CacheItem → Bool
has_class class row = is_class row.class
  where
    is_class : Option ℕ → Bool
    is_class None = false
    is_class (Some other) = other == class

abbrev pub has_storage : ℕ → CacheItem → Bool
has_storage stg row = row.stg == stg

-- ---- what all directories keep

-- which rows may stand before which
abbrev pub may_precede : CacheItem → CacheItem → Bool
may_precede row other =
    if is_changed row then (if is_changed other then name_before row.name other.name else true) else not
    (is_changed other)

abbrev pub names_apart : CacheItem → CacheItem → Bool
names_apart row other = not (same_name row.name other.name)

-- a held row is changed, and a changed row has data
abbrev pub is_sound : CacheItem → Bool
is_sound row = (is_none row.holder || is_changed row) && (not (is_changed row) || is_some row.body)

pub record IsDirectory (rows : List CacheItem) : Type 0 where
  pub ordered : IsTrue (pairwise may_precede rows)
  pub one_for_name : IsTrue (pairwise names_apart rows)
  pub sound : IsTrue (list_all is_sound rows)
