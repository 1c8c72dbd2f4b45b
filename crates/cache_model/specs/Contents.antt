-- What a cache structure contains, and what every content keeps.
use Rattle.std.specs.Prelude.{◌-◌, ◌≤◌, Bool, IsTrue, not, if◌then◌else◌, List, [], ◌∷◌, ◌++◌, length, Option, None, Some, filter, map, take, slice_get}
use Rattle.std.specs.List.{list_any, list_all}
use Rattle.cf_types.specs.declared.forms.Caps.{Caps}
use Rattle.cf_types.specs.declared.names.Name16.{Name16}
use Rattle.cf_types.specs.declared.numbers.ConnId.{ConnId}
use Rattle.cf_types.specs.Name.{same_name}
use Rattle.cache_regs.specs.declared.registrations.Registration.{Registration}
use Rattle.cache_regs.specs.Registrations.{regs_without, regs_for_others, IsRegistry}
use Rattle.cache_model.specs.declared.items.CacheItem.{CacheItem}
use Rattle.cache_model.specs.Rows.{is_held_by, elements_in, has_row, IsDirectory}

pub record Content : Type 0 where
  pub rows : List CacheItem
  pub regs : List Registration

abbrev pub no_content : Content
no_content = record { rows = []; regs = [] }

-- rows and registrations are in order, and there is a row for each registration, at whatever capacity
pub record IsOrderly (content : Content) : Type 0 where
  pub directory : IsDirectory content.rows
  pub registry : IsRegistry content.regs
  pub row_each : IsTrue (list_all (λ reg. has_row reg.name content.rows) content.regs)

-- rows and data within the capacity, and a row for each registration
pub record IsContent (caps : Caps) (content : Content) : Type 0 where
  pub directory : IsDirectory content.rows
  pub entries : length content.rows ≤ caps.entries
  pub elements : elements_in content.rows ≤ caps.elements
  pub registry : IsRegistry content.regs
  pub row_each : IsTrue (list_all (λ reg. has_row reg.name content.rows) content.regs)

-- a connector's castout lock is released; the row stays changed
abbrev pub without_hold : ConnId → CacheItem → CacheItem
without_hold conn row = record row { holder = if is_held_by conn row.holder then None else row.holder }

-- a connector departs: its registrations end, and its castout locks are released
abbrev pub content_without : ConnId → Content → Content
content_without conn content =
    record { rows = map (without_hold conn) content.rows; regs = regs_without conn content.regs }

-- registrations end
abbrev pub content_forgotten : Content → Content
content_forgotten content = record content { regs = [] }

-- one item more, behind the others
abbrev pub content_with : Content → CacheItem → Content
content_with content item = record content { rows = content.rows ++ item ∷ [] }

-- without the last item, and without its registrations
abbrev pub regs_without_row : Option CacheItem → List Registration → List Registration
regs_without_row None regs = regs
regs_without_row (Some row) regs = regs_for_others row.name regs

abbrev pub content_without_last : Content → Content
content_without_last content =
    let last = length content.rows - 1 in
    record { rows = take last content.rows; regs = regs_without_row (slice_get content.rows last) content.regs }

-- the entries and elements that items need
abbrev pub need_of : List CacheItem → Caps
need_of items = record { entries = length items; elements = elements_in items }

-- ---- rows that go, with their registrations

abbrev pub is_among : List Name16 → Name16 → Bool
is_among names name = list_any (λ other. same_name other name) names

abbrev pub rows_spared : List Name16 → List CacheItem → List CacheItem
rows_spared names rows = filter (λ row. not (is_among names row.name)) rows

abbrev pub regs_spared : List Name16 → List Registration → List Registration
regs_spared names regs = filter (λ reg. not (is_among names reg.name)) regs
