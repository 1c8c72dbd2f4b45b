-- What commands do to a rebuild, and whom they tell.
use Rattle.std.specs.Prelude.{ℕ, Bool, true, false, not, ◌&&◌, List, [], Option, None, Some}
use Rattle.cf_types.specs.declared.events.Event.{Event}
use Rattle.cf_types.specs.declared.events.Event.TheVariants as event
use Rattle.cf_types.specs.declared.events.Letter.{Letter}
use Rattle.cf_types.specs.declared.events.Stage.{Stage}
use Rattle.cf_types.specs.declared.events.Stage.TheVariants.{Quiesce, Connect, Copy, Cleanup, Stopping}
use Rattle.cf_types.specs.declared.numbers.CfId.{CfId}
use Rattle.cf_types.specs.declared.numbers.ConnId.{ConnId}
use Rattle.cf_types.specs.ConnSets.{is_member}
use Rattle.cf_types.specs.Mailboxes.{letters_to}
use Rattle.rebuild_core.specs.declared.passed.Passed.{Passed}
use Rattle.rebuild_core.specs.declared.passed.Passed.TheVariants.{No, Into, Ended}
use Rattle.rebuild_core.specs.declared.rebuild.Rebuild.{Rebuild}
use Rattle.rebuild_core.specs.Stages.{outcome_of}

-- the facility of the new instance
abbrev pub fresh_of : Option Rebuild → Option CfId
fresh_of None = None
fresh_of (Some rebuild) = rebuild.fresh

-- what the members are told where a stage begins, or the rebuild ends behind a stage
abbrev pub beginning_of : ℕ → Stage → Option Event
beginning_of number Quiesce = Some (event.Quiesce number)
beginning_of number Connect = Some (event.RebuildConnect number)
beginning_of number Copy = Some (event.ConnectsDone number)
beginning_of number Cleanup = Some (event.Cleanup number)
beginning_of number Stopping = Some (event.Stop number)

abbrev pub end_of : ℕ → Stage → Option Event
end_of number Quiesce = None
end_of number Connect = None
end_of number Copy = None
end_of number Cleanup = Some (event.Complete number)
end_of number Stopping = Some (event.StopDone number)

abbrev pub event_past : Passed → ℕ → Stage → Option Event
event_past No number stage = None
event_past (Into next) number stage = beginning_of number next
event_past Ended number stage = end_of number stage

abbrev pub told_to : List ConnId → Option Event → List Letter
told_to conns None = []
told_to conns (Some event) = letters_to conns event

-- the letters where a stage passes; where no member is left there are none
abbrev pub letters_past : Rebuild → List Letter
letters_past rebuild =
    told_to rebuild.members (event_past (outcome_of rebuild) rebuild.number rebuild.stage)

-- COPY has passed: the new instance takes the old one's place
abbrev pub is_switch : Passed → Bool
is_switch No = false
is_switch (Into Quiesce) = false
is_switch (Into Connect) = false
is_switch (Into Copy) = false
is_switch (Into Cleanup) = true
is_switch (Into Stopping) = false
is_switch Ended = false

abbrev pub is_copy : Stage → Bool
is_copy Quiesce = false
is_copy Connect = false
is_copy Copy = true
is_copy Cleanup = false
is_copy Stopping = false

-- a member whose content commands wait for the rebuild: from its response to QUIESCE on, until a stop
abbrev pub is_held_up : Stage → (owes : Bool) → Bool
is_held_up Quiesce owes = not owes
is_held_up Connect owes = true
is_held_up Copy owes = true
is_held_up Cleanup owes = true
is_held_up Stopping owes = false

abbrev pub is_quiesced : ConnId → Rebuild → Bool
is_quiesced conn rebuild =
    is_member conn rebuild.members && is_held_up rebuild.stage (is_member conn rebuild.owing)
