-- The numbers that decide whether there is room for a request.
use Rattle.std.specs.Prelude.{ℕ, ◌-◌, Bool, not, ◌&&◌, ◌||◌, nat_lt, nat_le, if◌then◌else◌, List, Option, Some, None, option_map, slice_get, length, sum_by, map, filter, drop}
use Rattle.cf_lists.specs.Prefixes.{shortest_prefix}
use Rattle.cf_types.specs.declared.forms.Caps.{Caps}
use Rattle.cache_model.specs.declared.items.CacheItem.{CacheItem}
use Rattle.cache_model.specs.declared.requests.Request.{Request}
use Rattle.cf_types.specs.declared.names.Name16.{Name16}
use Rattle.cache_core.specs.declared.room.Room.{Room}
use Rattle.cache_rows.specs.Indexes.{reclaimed_for}
use Rattle.cache_core.specs.declared.room.Reclaimable.{Reclaimable}
use Rattle.cache_model.specs.Rows.{is_row_of, elements_of, elements_in, has_row, rows_without}

abbrev pub room_for : Caps → Request → List CacheItem → Room
room_for caps request rows =
    record {
      named = has_row request.name rows;
      rows = length rows;
      entries = caps.entries;
      others = elements_in (rows_without request.name rows);
      elements = caps.elements;
      need = request.elements;
    }

-- once so many rows are gone, and so many elements given back
abbrev pub has_place : Room → ℕ → Bool
has_place room count = room.named || nat_lt (room.rows - count) room.entries

abbrev pub free_elements : Room → ℕ → ℕ
free_elements room given = room.elements - (room.others - given)

abbrev pub is_enough : Room → ℕ → ℕ → Bool
is_enough room count given = has_place room count && nat_le room.need (free_elements room given)

abbrev pub reclaimable_of : CacheItem → Reclaimable
reclaimable_of row = record { name = row.name; elements = elements_of row.body }

abbrev pub is_enough_of : Room → List Reclaimable → Bool
is_enough_of room gone = is_enough room (length gone) (sum_by (λ row. row.elements) gone)

-- the names of as few rows from the front of an order as leave room
abbrev pub front_names : Room → List Reclaimable → List Name16
front_names room order = map (λ row. row.name) (shortest_prefix (is_enough_of room) order)

-- a row, unless it is the one of this name
abbrev pub other_than : Name16 → Option CacheItem → Option CacheItem
other_than name None = None
other_than name (Some row) = if is_row_of name row then None else Some row

-- what is reclaimed for a command at this place of the order, unless the command's own row stands there
abbrev pub victim_at : Request → List CacheItem → ℕ → Option Reclaimable
victim_at request rows k =
    option_map reclaimable_of (other_than request.name (slice_get (reclaimed_for request.stg rows) k))

-- what may be reclaimed for a request, from this place of the order on
abbrev pub reclaimable_from : Request → List CacheItem → ℕ → List Reclaimable
reclaimable_from request rows k =
    map reclaimable_of (filter (λ row. not (is_row_of request.name row)) (drop k (reclaimed_for request.stg rows)))
