use Rattle.std.proofs.Common.{◌≡◌, ◌+◌, ◌≤◌, drop, length}
use Rattle.std.specs.Vec.{vec_len, vec_capacity}
use Rattle.queue_model.specs.Turns.{watchers, events_with}
use Rattle.list_queues.proofs.queues.push_events.Given as goal

abbrev pub invariant-loop-monitor : goal.invariant-loop-monitor
invariant-loop-monitor l = (events_with l.it (drop l.monitor-index l.monitors) l.events.items
    ≡ events_with l.it l.monitors l.initial.events.items)
    × (vec_len l.events + length (watchers l.it (drop l.monitor-index l.monitors)) ≤ vec_capacity l.events)
