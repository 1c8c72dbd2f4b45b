-- The room rule: which unchanged rows are reclaimed for a request, and when there is no room all the same.
use Rattle.std.specs.Prelude.{ℕ, ◌-◌, Bool, not, ◌&&◌, ◌||◌, nat_lt, nat_le, if◌then◌else◌, List, ◌++◌, length, Option, Some, None, filter, map}
use Rattle.cf_types.specs.declared.forms.Caps.{Caps}
use Rattle.cf_types.specs.declared.names.Name16.{Name16}
use Rattle.cf_types.specs.declared.refusals.Refusal.{Refusal}
use Rattle.cf_types.specs.declared.refusals.Refusal.TheVariants.{DirectoryFull, NoElements}
use Rattle.cf_lists.specs.Prefixes.{shortest_prefix}
use Rattle.cache_model.specs.declared.items.CacheItem.{CacheItem}
use Rattle.cache_model.specs.declared.requests.Request.{Request}
use Rattle.cache_model.specs.Rows.{is_row_of, is_changed, has_storage, elements_in, has_row, rows_without}

-- unchanged rows of other names may be reclaimed
abbrev pub is_reclaimable : Name16 → CacheItem → Bool
is_reclaimable name row = not (is_changed row) && not (is_row_of name row)

-- first those of the command's storage class, then the others, each from least recently used
abbrev pub reclaim_order : Request → List CacheItem → List CacheItem
reclaim_order request rows =
    let reclaimable = filter (is_reclaimable request.name) rows in
    filter (has_storage request.stg) reclaimable ++ filter (λ row. not (has_storage request.stg row)) reclaimable

-- once these rows are gone: whether the name has a row or there is a place for one, and how many elements are free
-- for its data, of which its own old data count as free
abbrev pub has_place : Caps → Request → List CacheItem → List CacheItem → Bool
has_place caps request rows gone = has_row request.name rows || nat_lt (length rows - length gone) caps.entries

abbrev pub free_elements : Caps → Request → List CacheItem → List CacheItem → ℕ
free_elements caps request rows gone =
    caps.elements - (elements_in (rows_without request.name rows) - elements_in gone)

abbrev pub has_room : Caps → Request → List CacheItem → List CacheItem → Bool
has_room caps request rows gone =
    has_place caps request rows gone && nat_le request.elements (free_elements caps request rows gone)

-- the names of the rows that are reclaimed: as few from the front of the order as leave room
abbrev pub victims : Caps → Request → List CacheItem → List Name16
victims caps request rows =
    map (λ row. row.name) (shortest_prefix (has_room caps request rows) (reclaim_order request rows))

-- want of room even after all of the order: of the row's place, and then of elements
abbrev pub elements_refusal : ℕ → ℕ → Option Refusal
elements_refusal need free = if nat_le need free then None else Some (NoElements need free)

abbrev pub room_refusal : Caps → Request → List CacheItem → Option Refusal
room_refusal caps request rows =
    let all = reclaim_order request rows in
    if has_place caps request rows all
    then elements_refusal request.elements (free_elements caps request rows all)
    else Some (DirectoryFull caps.entries)
