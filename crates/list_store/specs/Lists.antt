-- The records of a list structure: for each header, from 0, the list of its records.
use Rattle.std.specs.Prelude.{ℕ, Bool, List, Option, Some, None, option_map, position}
use Rattle.cf_types.specs.declared.numbers.EntryId.{EntryId}
pub use Rattle.cf_lists.specs.Lists.{records_of, with_records, all_records, lists_with, count_of}
use Rattle.cf_lists.specs.Lists as generic
use Rattle.list_store.specs.declared.records.Spot.{Spot}
use Rattle.list_store.specs.Record.{Record}

abbrev pub Lists : Type 0
Lists = List (List Record)

abbrev pub record_id : Record → ℕ
record_id rec = rec.id.0

abbrev pub is_id : EntryId → Record → Bool
is_id id rec = generic.is_id record_id id.0 rec

abbrev pub has_id : EntryId → List Record → Bool
has_id id records = generic.has_id record_id id.0 records

-- the record with an id, in whichever header
abbrev pub record_of : EntryId → Lists → Option Record
record_of id lists = generic.record_of record_id id.0 lists

-- where it is: in the first header that has it, at its place there
abbrev pub place_in : EntryId → ℕ → List Record → Option Spot
place_in id header records =
    option_map (λ place. record { header = header; place = place }) (position (is_id id) records)

abbrev pub spot_in : EntryId → Lists → Option ℕ → Option Spot
spot_in id lists None = None
spot_in id lists (Some header) = place_in id header (records_of lists header)

abbrev pub spot_of : EntryId → Lists → Option Spot
spot_of id lists = spot_in id lists (position (has_id id) lists)

-- without the record with an id
abbrev pub records_without : EntryId → List Record → List Record
records_without id records = generic.records_without record_id id.0 records

abbrev pub lists_without : EntryId → Lists → Lists
lists_without id lists = generic.lists_without record_id id.0 lists

-- a record stands where the one with its id stood
abbrev pub replaced_by : Record → Record → Record
replaced_by rec other = generic.replaced_by record_id rec other

abbrev pub lists_replaced : Record → Lists → Lists
lists_replaced rec lists = generic.lists_replaced record_id rec lists

-- no two records have one id
abbrev pub ids_apart : Record → Record → Bool
ids_apart rec other = generic.ids_apart record_id rec other

abbrev pub AreApart : Lists → Type 0
AreApart lists = generic.AreApart record_id lists
