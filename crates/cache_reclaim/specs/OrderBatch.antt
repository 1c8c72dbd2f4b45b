-- An order of last use with room for more.
use Rattle.std.specs.Prelude.{ℕ, List, ◌≤◌, reverse}
use Rattle.indexmap.specs.IndexMap.{spare}
use Rattle.cache_reclaim.specs.declared.used.Used.{Used}
use Rattle.cache_reclaim.specs.declared.order.Order.TheInside.{Inside}
use Rattle.cache_reclaim.specs.Slots.{used_in, IsTied}

-- the names from least to most recently used, how many there may be, and for how many more there is room
pub record OrderBatch : Type 0 where
  pub order : List Used
  pub entries : ℕ
  pub room : ℕ

abbrev pub batch_of : Inside → OrderBatch
batch_of o = record { order = used_in (reverse o.slots.entries); entries = o.entries; room = spare o.names }

-- names and slots agree, and there are slots for as many names as there may be
pub record IsKept (o : Inside) : Type 0 where
  pub tied : IsTied o.slots.entries o.names.entries o.slots.cap
  pub within : o.entries ≤ o.slots.cap
