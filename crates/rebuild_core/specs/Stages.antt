-- The stages of a rebuild: what each waits for, and what comes once nobody owes it any more.
use Rattle.std.specs.Prelude.{◌≡◌, ◌≢◌, ℕ, Bool, false, ◌==◌, List, [], ◌∷◌, Option, None, Some, unwrap_or}
use Rattle.cf_types.specs.declared.events.Event.{Event}
use Rattle.cf_types.specs.declared.events.Event.TheVariants as event
use Rattle.cf_types.specs.declared.events.Stage.{Stage}
use Rattle.cf_types.specs.declared.events.Stage.TheVariants.{Quiesce, Connect, Copy, Cleanup, Stopping}
use Rattle.cf_types.specs.declared.forms.Caps.{Caps}
use Rattle.cf_types.specs.declared.numbers.CfId.{CfId}
use Rattle.cf_types.specs.declared.numbers.ConnId.{ConnId}
use Rattle.cf_types.specs.ConnSets.{without_member}
use Rattle.rebuild_core.specs.declared.passed.Passed.{Passed}
use Rattle.rebuild_core.specs.declared.passed.Passed.TheVariants.{No, Into, Ended}
use Rattle.rebuild_core.specs.declared.rebuild.Rebuild.{Rebuild}

-- ---- the table of stages

-- the event to which a stage of the rebuild with this number waits for responses
abbrev pub event_of : ℕ → Stage → Option Event
event_of number Quiesce = Some (event.Quiesce number)
event_of number Connect = None
event_of number Copy = None
event_of number Cleanup = Some (event.Cleanup number)
event_of number Stopping = Some (event.Stop number)

-- an event is the one to which a stage of the rebuild with this number waits for responses
abbrev pub is_response : Stage → ℕ → Event → Bool
is_response Quiesce number (event.Quiesce n) = n == number
is_response Cleanup number (event.Cleanup n) = n == number
is_response Stopping number (event.Stop n) = n == number
is_response _ _ _ = false

-- what comes behind a stage
abbrev pub next_stage : Stage → Passed
next_stage Quiesce = Into Connect
next_stage Connect = Into Copy
next_stage Copy = Into Cleanup
next_stage Cleanup = Ended
next_stage Stopping = Ended

-- the new instance goes with a rebuild in CONNECT and COPY alone: it is in use after them, or given up
abbrev pub fresh_in : Stage → Option CfId → Option CfId
fresh_in Quiesce fresh = None
fresh_in Connect fresh = fresh
fresh_in Copy fresh = fresh
fresh_in Cleanup fresh = None
fresh_in Stopping fresh = None

-- ---- what is done to a rebuild

-- it begins, and all members owe a response to QUIESCE
abbrev pub new_rebuild : ℕ → List ConnId → Caps → Rebuild
new_rebuild number members caps =
    record { number = number; stage = Quiesce; members = members; owing = members; caps = caps; fresh = None }

abbrev pub awaited_event : Rebuild → Option Event
awaited_event rebuild = event_of rebuild.number rebuild.stage

-- every member owes what the stage waits for
abbrev pub with_all_owing : Rebuild → Rebuild
with_all_owing rebuild = record rebuild { owing = rebuild.members }

-- in COPY all owe again
abbrev pub rebuild_emptied : Stage → Rebuild → Rebuild
rebuild_emptied Quiesce rebuild = rebuild
rebuild_emptied Connect rebuild = rebuild
rebuild_emptied Copy rebuild = with_all_owing rebuild
rebuild_emptied Cleanup rebuild = rebuild
rebuild_emptied Stopping rebuild = rebuild

-- the new instance stands where it was put first
abbrev pub with_place : CfId → Rebuild → Rebuild
with_place cf rebuild = record rebuild { fresh = Some (unwrap_or rebuild.fresh cf) }

-- a stage begins, and every member owes what it waits for
abbrev pub rebuild_in : Stage → Rebuild → Rebuild
rebuild_in stage rebuild =
    record rebuild { stage = stage; owing = rebuild.members; fresh = fresh_in stage rebuild.fresh }

-- a connector owes nothing more
abbrev pub without_owing : ConnId → Rebuild → Rebuild
without_owing conn rebuild = record rebuild { owing = without_member conn rebuild.owing }

-- who owes after a departure, with these members left: in COPY all of them, since the new instance is copied anew
abbrev pub owing_after : Stage → ConnId → List ConnId → List ConnId → List ConnId
owing_after Quiesce conn members owing = without_member conn owing
owing_after Connect conn members owing = without_member conn owing
owing_after Copy conn members owing = members
owing_after Cleanup conn members owing = without_member conn owing
owing_after Stopping conn members owing = without_member conn owing

-- a connector departed
abbrev pub rebuild_without : ConnId → Rebuild → Rebuild
rebuild_without conn rebuild =
    let members = without_member conn rebuild.members in
    record rebuild { members = members; owing = owing_after rebuild.stage conn members rebuild.owing }

-- ---- the passing of stages

-- a rebuild without members has ended; a stage in which somebody owes goes on; another has passed
abbrev pub outcome : Stage → (members owing : List ConnId) → Passed
outcome stage [] owing = Ended
outcome stage (member ∷ members) (conn ∷ owing) = No
outcome stage (member ∷ members) [] = next_stage stage

abbrev pub outcome_of : Rebuild → Passed
outcome_of rebuild = outcome rebuild.stage rebuild.members rebuild.owing

-- the next stage begins where one passed
abbrev pub rebuild_past : Passed → Rebuild → Rebuild
rebuild_past No rebuild = rebuild
rebuild_past (Into stage) rebuild = rebuild_in stage rebuild
rebuild_past Ended rebuild = rebuild

abbrev pub next_rebuild : Rebuild → Rebuild
next_rebuild rebuild = rebuild_past (outcome_of rebuild) rebuild

-- a stage that has passed makes way for the next one, and the last one for none
abbrev pub rebuild_left : Passed → Rebuild → Option Rebuild
rebuild_left No rebuild = Some rebuild
rebuild_left (Into stage) rebuild = Some (rebuild_in stage rebuild)
rebuild_left Ended rebuild = None

abbrev pub rebuild_onward : Rebuild → Option Rebuild
rebuild_onward rebuild = rebuild_left (outcome_of rebuild) rebuild

-- ---- what is true of a rebuild between two calls
