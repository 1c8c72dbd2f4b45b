-- A content as the engine keeps it.
use Rattle.std.specs.Prelude.{◌≡◌, ℕ, ◌+◌, ◌<◌, ◌≤◌, Bool, not, if◌then◌else◌, List, Option, None, Some, length}
use Rattle.cf_types.specs.declared.names.Key16.{Key16}
use Rattle.list_store.specs.Record.{Record}
use Rattle.list_model.specs.Keys.{key_up_to}
use Rattle.list_watch.specs.Rows.{monitors_of}
use Rattle.list_store.specs.Lists.{Lists, all_records}
use Rattle.list_kept.specs.Data.{AreUsed}
use Rattle.list_kept.specs.Named.{AreNamed}
use Rattle.list_model.specs.Lists.{with_record}
use Rattle.list_model.specs.Commands.Move.{with_new_key}
use Rattle.list_model.specs.Contents.{Content}
use Rattle.list_kept.specs.declared.keeping.Kept.TheInside.{Inside}
use Rattle.list_kept.specs.Told.{AreTold}
use Rattle.list_kept.specs.Orderly.{IsOrderly}

-- the content, the chains in which its data lie, how many elements there are for data, how many bits a
-- vector has, and for how many more records, names and monitors there is room
pub record ContentView : Type 0 where
  pub content : Content
  pub chains : List (Option (List ℕ))
  pub elements : ℕ
  pub vector : ℕ
  pub record_room : ℕ
  pub name_room : ℕ
  pub monitor_room : ℕ

abbrev pub content_of : Inside → Content
content_of k =
    record {
      lists = k.store.lists;
      limits = k.limits.items;
      locks = k.locks.items;
      monitors = monitors_of k.watch.rows;
      next = k.next;
    }

abbrev pub content_view : Inside → ContentView
content_view k =
    record {
      content = content_of k;
      chains = k.store.chains;
      elements = k.elements;
      vector = k.watch.len;
      record_room = k.store.room;
      name_room = k.names.room;
      monitor_room = k.watch.room;
    }

-- each connector was told of the header that it monitors, the records are in order, each name has the
-- id of the record that has the name, and the pool has so many elements and no chain without a record
pub record IsKept (k : Inside) : Type 0 where
  pub told : AreTold k.store.lists k.watch.rows
  pub orderly : IsOrderly k.elements k.store.lists
  pub named : AreNamed k.names.names (all_records k.store.lists)
  pub used : AreUsed k.store.loose
  pub whole : length k.store.chains ≡ k.elements

-- there is room for a record, a name, a monitor and the bits that change, and an id
pub record IsRoomy (k : ContentView) (bit_room : ℕ) : Type 0 where
  pub records : 1 ≤ k.record_room
  pub names : 1 ≤ k.name_room
  pub monitors : 1 ≤ k.monitor_room
  pub bits : length k.content.monitors + length k.content.monitors + 2 ≤ bit_room
  pub ids : k.content.next < 18446744073709551615

-- which records stand before one with this key, or none, that comes to the head or the tail
abbrev pub comes_behind : Bool → Option Key16 → Record → Bool
comes_behind head key other =
    if head then not (key_up_to key other.key) else key_up_to other.key key

-- a record that was taken out comes to its place in a header, with a new key if one is given
abbrev pub put_back : Bool → ℕ → Option Key16 → Option Record → Lists → Lists
put_back head header key None lists = lists
put_back head header key (Some rec) lists = with_record head header (with_new_key key rec) lists
