-- Sublists: the records of a header that have a key; and which of them a command may empty, and which it may fill.
use Rattle.std.specs.Prelude.{ℕ, ◌==◌, Bool, false, ◌&&◌, ◌||◌, length, filter, Option, None, Some}
use Rattle.std.specs.List.{list_any}
use Rattle.std.specs.Option.{option_or}
use Rattle.cf_types.specs.declared.list_commands.At.{At}
use Rattle.cf_types.specs.declared.list_commands.ListCmd.{ListCmd}
use Rattle.cf_types.specs.declared.list_commands.ListCmd.TheVariants.{Write, Move, Delete}
use Rattle.cf_types.specs.declared.names.Key16.{Key16}
use Rattle.list_store.specs.Lists.{Lists, records_of}
use Rattle.list_model.specs.Contents.{Content}
use Rattle.list_model.specs.Keys.{same_key}
use Rattle.list_model.specs.Lists.{the_record, header_of}
use Rattle.list_model.specs.Records.{has_key}
use Rattle.list_model.specs.declared.sublists.Sublist.{Sublist}
use Rattle.list_model.specs.declared.sublists.Turning.{Turning}

-- how many records a sublist has, and whether it has some
abbrev pub sublist : Lists → ℕ → Key16 → ℕ
sublist lists header key = length (filter (has_key key) (records_of lists header))

abbrev pub is_there : Lists → ℕ → Key16 → Bool
is_there lists header key = list_any (has_key key) (records_of lists header)

-- the sublist of a record of a header, which may have a key
abbrev pub sublist_at : ℕ → Option Key16 → Option Sublist
sublist_at header None = None
sublist_at header (Some key) = Some (record { header = header; key = key })

-- that of the record which a command names
abbrev pub sublist_of : Lists → At → Option Sublist
sublist_of lists ref = let rec = the_record lists ref in sublist_at (header_of rec.id lists) rec.key

-- the sublist from which a command takes a record, and the one to which it brings one
abbrev pub turning : Content → ListCmd → Turning
turning content (Write header head name key body adj cond) =
    record { empties = None; fills = sublist_at header key }
turning content (Move ref header head key version cond) =
    record {
      empties = sublist_of content.lists ref;
      fills = sublist_at header (option_or key (the_record content.lists ref).key);
    }
turning content (Delete ref version cond) = record { empties = sublist_of content.lists ref; fills = None }
turning content _ = record { empties = None; fills = None }

-- the sublist is the one of this header and this key
abbrev pub is_sublist : Option Sublist → ℕ → Key16 → Bool
is_sublist None header key = false
is_sublist (Some it) header key = (it.header == header) && same_key it.key key

abbrev pub may_turn : Turning → ℕ → Key16 → Bool
may_turn turning header key = is_sublist turning.empties header key || is_sublist turning.fills header key
