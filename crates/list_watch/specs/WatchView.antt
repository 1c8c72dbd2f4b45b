-- Monitors with room for more.
use Rattle.std.specs.Prelude.{ℕ, List, min, ◌-◌, ◌<◌}
use Rattle.std.specs.Vec.{vec_len, vec_capacity}
use Rattle.list_watch.specs.declared.monitors.Watched.{Watched}
use Rattle.list_watch.specs.declared.watch.Watch.TheInside.{Inside}
use Rattle.list_watch.specs.Monitors.{AreMonitors}
use Rattle.list_watch.specs.Rows.{monitors_of}

-- the monitors with the bits that were told, how many bits a vector has, and for how many more monitors
-- there is room
pub record WatchView : Type 0 where
  pub rows : List Watched
  pub len : ℕ
  pub room : ℕ

abbrev pub watch_view : Inside → WatchView
watch_view w =
    record {
      rows = w.rows.items;
      len = w.len;
      room = min (vec_capacity w.rows - vec_len w.rows) (4294967295 - vec_len w.rows);
    }

-- fewer than 2^32, so that their number is one of 32 bits
pub record IsKept (w : Inside) : Type 0 where
  pub monitors : AreMonitors (monitors_of w.rows.items)
  pub few : vec_len w.rows < 4294967296
