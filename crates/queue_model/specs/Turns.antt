-- What a command on records does to queues: of the two sublists that it may turn, the one that it empties loses its
-- events, and whoever monitors the one that it fills gets an event.
use Rattle.std.specs.Prelude.{◌==◌, Bool, not, ◌&&◌, if◌then◌else◌, List, [], filter, fold, length, Option, None, Some}
use Rattle.cf_types.specs.declared.list_commands.ListCmd.{ListCmd}
use Rattle.list_model.specs.declared.sublists.Sublist.{Sublist}
use Rattle.list_model.specs.declared.sublists.Turning.{Turning}
use Rattle.list_model.specs.Contents.{Content}
use Rattle.list_model.specs.Keys.{same_key}
use Rattle.list_model.specs.ListStore.Lists.{Lists}
use Rattle.list_model.specs.Sublists.{is_there, turning}
use Rattle.queue_model.specs.declared.subs.Sub.{Sub}
use Rattle.queue_model.specs.Queues.{Queued, with_event}

-- the sublist is this one, whoever's
abbrev pub is_of : Sublist → Sub → Bool
is_of it sub = (it.header == sub.header) && same_key it.key sub.key

-- its events go; and there is one more for each of its monitors
abbrev pub events_without : Sublist → List Sub → List Sub
events_without it events = filter (λ sub. not (is_of it sub)) events

abbrev pub watchers : Sublist → List Sub → List Sub
watchers it monitors = filter (is_of it) monitors

abbrev pub events_with : Sublist → List Sub → List Sub → List Sub
events_with it monitors events = fold with_event events (watchers it monitors)

abbrev pub emptied : Sublist → Queued → Queued
emptied it queued = record queued { events = events_without it queued.events }

abbrev pub filled : Sublist → Queued → Queued
filled it queued = record queued { events = events_with it queued.monitors queued.events }

-- a sublist that may be empty behind a command, and one that is filled by it
abbrev pub emptied_at : Lists → Option Sublist → Queued → Queued
emptied_at lists None queued = queued
emptied_at lists (Some it) queued = if is_there lists it.header it.key then queued else emptied it queued

abbrev pub filled_at : Option Sublist → Queued → Queued
filled_at None queued = queued
filled_at (Some it) queued = filled it queued

abbrev pub turned : Lists → Turning → Queued → Queued
turned lists turn queued = filled_at turn.fills (emptied_at lists turn.empties queued)

-- a sublist that a command fills, where it has no records yet
abbrev pub unfilled : Lists → Option Sublist → Option Sublist
unfilled lists None = None
unfilled lists (Some it) = if is_there lists it.header it.key then None else Some it

abbrev pub no_turn : Turning
no_turn = record { empties = None; fills = None }

abbrev pub turning_new : Lists → Turning → Turning
turning_new lists turn = record { empties = turn.empties; fills = unfilled lists turn.fills }

-- nothing is monitored, and no event waits
abbrev pub is_idle : Queued → Bool
is_idle queued = (length queued.monitors == 0) && (length queued.events == 0)

-- what a command may turn, where there is anything that it could change
abbrev pub turn_for : Queued → Content → ListCmd → Turning
turn_for queued content cmd =
    if is_idle queued then no_turn else turning_new content.lists (turning content cmd)

-- who gets an event then
abbrev pub comers_at : Option Sublist → List Sub → List Sub
comers_at None monitors = []
comers_at (Some it) monitors = watchers it monitors

abbrev pub comers : Turning → Queued → List Sub
comers turn queued = comers_at turn.fills queued.monitors
