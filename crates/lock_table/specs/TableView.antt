-- Interests with room for more.
use Rattle.std.specs.Prelude.{◌≡◌, ℕ, List, min, ◌-◌, length}
use Rattle.lock_table.specs.declared.holdings.Held.{Held}
use Rattle.lock_table.specs.declared.table.Table.TheInside.{Inside}
use Rattle.lock_table.specs.Tables.{owners_in, AreEntries}

-- the interests, and for how many more there is room
pub record TableView : Type 0 where
  pub owners : List Held
  pub room : ℕ

abbrev pub table_view : Inside → TableView
table_view t =
    record {
      owners = owners_in t.entries.items;
      room = min (length t.spare) (4294967295 - t.count);
    }

-- counted, so that their number is one of 32 bits
pub record IsKept (t : Inside) : Type 0 where
  pub entries : AreEntries t.entries.items
  pub count : t.count ≡ length (owners_in t.entries.items)
