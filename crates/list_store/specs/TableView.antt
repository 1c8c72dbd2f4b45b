-- Records with room for more.
use Rattle.std.specs.Prelude.{ℕ, ◌<◌, ◌&&◌, nat_lt, Bool, IsTrue, List, if◌then◌else◌}
use Rattle.std.specs.List.{list_all}
use Rattle.std.specs.Vec.{vec_len}
use Rattle.slab.specs.Slab.{slab_len}
use Rattle.indexmap.specs.IndexMap.{spare}
use Rattle.list_store.specs.declared.records.Rec.{Rec}
use Rattle.list_store.specs.declared.table.Table.TheInside.{Inside}
use Rattle.list_store.specs.Orders.{orders_in, is_few, has_place}
use Rattle.list_store.specs.Tied.{lists_at, IsTied}

-- a list for each header, and for how many records more there is room: 0 or 1
pub record TableView : Type 0 where
  pub lists : List (List Rec)
  pub room : ℕ

-- room in the slab, whose keys are below 2^32, in the map and in each order
abbrev pub is_roomy : Inside → Bool
is_roomy s =
    nat_lt (slab_len s.slab) s.slab.capacity && nat_lt s.slab.capacity 4294967296
    && nat_lt 0 (spare s.spots) && list_all has_place s.orders.items

abbrev pub table_view : Inside → TableView
table_view s =
    record {
      lists = lists_at s.slab (orders_in s.orders.items);
      room = if is_roomy s then 1 else 0;
    }

pub record IsKept (s : Inside) : Type 0 where
  pub tied : IsTied s.slab (orders_in s.orders.items) s.spots.entries
  pub few : IsTrue (list_all is_few (orders_in s.orders.items))
  pub headers : vec_len s.orders < 4294967296
