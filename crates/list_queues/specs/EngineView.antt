-- The engine as contracts see it.
use Rattle.std.specs.Prelude.{◌≡◌, ◌≤◌, Option, Some, length}
use Rattle.cf_types.specs.declared.effects.Effects.{Effects}
use Rattle.cf_types.specs.declared.list_commands.ListCmd.{ListCmd}
use Rattle.cf_types.specs.declared.list_commands.QueueCmd.{QueueCmd}
use Rattle.cf_types.specs.declared.list_commands.QueueCmd.TheVariants as queue
use Rattle.cf_types.specs.declared.numbers.ConnId.{ConnId}
use Rattle.engine_api.specs.Meaning.{Held, Wish}
use Rattle.engine_api.specs.Meaning.Wish.{ForCmd, ForLeave, ForForget}
use Rattle.list_core.specs.EngineView as inner
use Rattle.list_core.specs.EngineView.{EngineView}
use Rattle.list_model.specs.Contents.{Content}
use Rattle.list_model.specs.declared.sublists.Turning.{Turning}
use Rattle.list_queues.specs.QueuesView.{QueuesView}
use Rattle.list_queues.specs.declared.engine.QueueEngine.TheInside.{Inside}
use Rattle.queue_model.specs.Meaning.{QueueState}
use Rattle.queue_model.specs.declared.subs.Queued.{Queued}
use Rattle.queue_model.specs.Turns.{comers, turn_for}

-- the engine of its records, the monitors and events, and what a command may turn for which it is ready
pub record QueueView : Type 0 where
  pub inner : EngineView
  pub queues : QueuesView
  pub plan : Option Turning

abbrev pub view_of : Inside → QueueView
view_of e = record { inner = e.inner; queues = e.queues; plan = e.plan }

-- what it holds: the records with the monitors and events
abbrev pub held_with : Queued → Held Content → Held (QueueState Content)
held_with queued held =
    record {
      shape = held.shape;
      base = held.base;
      caps = held.caps;
      state = record { inner = held.state; more = queued };
    }

abbrev pub held_of : QueueView → Held (QueueState Content)
held_of e = held_with e.queues.queued e.inner.held

-- the turning is that of the command, and there is room for an event of each who gets one
pub record IsReadyFor (e : QueueView) (by : ConnId) (cmd : ListCmd) (out : Effects) : Type 0 where
  pub inner : inner.IsReady e.inner (ForCmd by cmd) out
  pub planned : e.plan ≡ Some (turn_for e.queues.queued e.inner.held.state cmd)
  pub room : length (comers (turn_for e.queues.queued e.inner.held.state cmd) e.queues.queued) ≤ e.queues.event_room

-- there is room for a monitor and its event
pub record IsRoomy (queues : QueuesView) : Type 0 where
  pub monitor : 1 ≤ queues.monitor_room
  pub event : 1 ≤ queues.event_room

abbrev pub IsReady : QueueView → Wish QueueCmd → Effects → Type 0
IsReady e (ForCmd by (queue.List cmd)) out = IsReadyFor e by cmd out
IsReady e (ForCmd by (queue.MonSub header key)) out = IsRoomy e.queues
IsReady e (ForCmd by (queue.UnmonSub header key)) out = Unit {0}
IsReady e (ForCmd by queue.Deq) out = Unit {0}
IsReady e (ForLeave conn) out = inner.IsReady e.inner (ForLeave conn) out
IsReady e ForForget out = inner.IsReady e.inner ForForget out
