-- Where records stand, and where a record comes to stand.
use Rattle.std.specs.Prelude.{ℕ, ◌-◌, Bool, not, if◌then◌else◌, List, [], ◌∷◌, length, Option, None, unwrap_or, find, position, take, slice_get}
use Rattle.cf_types.specs.declared.list_commands.At.{At}
use Rattle.cf_types.specs.declared.list_commands.At.TheVariants as ref
use Rattle.cf_types.specs.declared.numbers.EntryId.{EntryId}
use Rattle.cf_lists.specs.Insertions.{insertion}
use Rattle.list_store.specs.Record.{Record}
use Rattle.list_store.specs.Lists.{Lists, records_of, with_records, all_records, has_id, record_of}
use Rattle.list_model.specs.Keys.{key_up_to}
use Rattle.list_model.specs.Records.{has_name, has_key}

-- the header that the record with an id is in
abbrev pub header_of : EntryId → Lists → ℕ
header_of id lists = unwrap_or (position (has_id id) lists) 0

-- the record that is named: by its id or its name, as the first or the last of a header, or as the
-- first of a header with a key
abbrev pub last_record : List Record → Option Record
last_record records = slice_get records (length records - 1)

abbrev pub record_at : Lists → At → Option Record
record_at lists (ref.Id id) = record_of id lists
record_at lists (ref.Name name) = find (has_name name) (all_records lists)
record_at lists (ref.Head header) = slice_get (records_of lists header) 0
record_at lists (ref.Tail header) = last_record (records_of lists header)
record_at lists (ref.Key header key) = find (has_key key) (records_of lists header)

-- no record has the id 0, nor the version 0
abbrev pub no_record : Record
no_record =
    record { id = record { 0 = 0 }; version = 0; name = None; key = None; body = None; adj = None }

abbrev pub the_record : Lists → At → Record
the_record lists at = unwrap_or (record_at lists at) no_record

-- which records stand before one that comes to the head or the tail: those of earlier keys, and at
-- the tail those of the same key too. Records without keys count as of the same key
abbrev pub stands_before : Bool → Record → Record → Bool
stands_before head rec other =
    if head then not (key_up_to rec.key other.key) else key_up_to other.key rec.key

-- a record more, at its place in a header
abbrev pub with_record : Bool → ℕ → Record → Lists → Lists
with_record head header rec lists =
    with_records lists header (insertion (stands_before head rec) rec (records_of lists header))

-- the first n records, by header and place
abbrev pub first_records : ℕ → Lists → Lists
first_records n [] = []
first_records n (records ∷ lists) = take n records ∷ first_records (n - length records) lists
