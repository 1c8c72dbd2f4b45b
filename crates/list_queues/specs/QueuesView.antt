-- Monitors and events as contracts see them.
use Rattle.std.specs.Prelude.{ℕ, ◌-◌}
use Rattle.std.specs.Vec.{vec_len, vec_capacity}
use Rattle.list_queues.specs.declared.queues.Queues.TheInside.{Inside}
use Rattle.queue_model.specs.declared.subs.Queued.{Queued}

-- the monitors and the events, and for how many more of each there is room
pub record QueuesView : Type 0 where
  pub queued : Queued
  pub monitor_room : ℕ
  pub event_room : ℕ

abbrev pub queues_view : Inside → QueuesView
queues_view q =
    record {
      queued = record { monitors = q.monitors.items; events = q.events.items };
      monitor_room = vec_capacity q.monitors - vec_len q.monitors;
      event_room = vec_capacity q.events - vec_len q.events;
    }
