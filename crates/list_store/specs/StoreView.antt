-- Records and their data.
use Rattle.std.specs.Prelude.{ℕ, IsTrue, List, Option, map}
use Rattle.std.specs.List.{list_all}
use Rattle.cf_lists.specs.Lists.{all_records}
use Rattle.list_store.specs.declared.store.Store.TheInside.{Inside}
use Rattle.list_store.specs.Record.{Record}
use Rattle.list_store.specs.Records.{record_in, loose_in, is_data, AreHeld}

-- for each header its records; the chains of the pool, those of them that no record has, and how many
-- elements are free; for how many records more there is room: 0 or 1
pub record StoreView : Type 0 where
  pub lists : List (List Record)
  pub chains : List (Option (List ℕ))
  pub loose : List (Option (List ℕ))
  pub free : ℕ
  pub room : ℕ

abbrev pub store_view : Inside → StoreView
store_view s =
    record {
      lists = map (map (record_in s.pool.chains)) s.table.lists;
      chains = s.pool.chains;
      loose = loose_in s.pool.chains (all_records s.table.lists);
      free = s.pool.free;
      room = s.table.room;
    }

pub record IsStore (s : Inside) : Type 0 where
  pub held : AreHeld s.pool.chains (all_records s.table.lists)
  pub whole : IsTrue (list_all is_data s.pool.chains)
