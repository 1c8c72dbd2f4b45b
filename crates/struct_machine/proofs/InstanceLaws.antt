-- Where the instances of a structure stand behind a command, and which of its deeds may be done.
use Rattle.struct_machine.proofs.Imports.{arith, made_apart, ◌≡◌, ◌≢◌, Bool, true, false, ◌||◌, List, Option, None, Some, IfSome, refl, if◌then◌else◌, is_some, eq-eqb, eqb-true, false_from_ne_true, Event, Connect, StrForm, CfId, ConnId, Refusal, ShellCmd, ShellReply, IsFacility, IsForm, next_event, owed_event, Deeds, Instances, no_instance, is_at, Machine, room_of, Meaning, first_refusal, fresh_of, Shell, ShellOutcome, complete_outcome, departure_outcome, loss_outcome, no_deeds, rebuild_connect_outcome, response_outcome, shell_cause, simplex_outcome, stop_outcome, take_event, vary_outcome, Rebuild, IsManned, IsPaired, idle_rebuild, past_front, past_second, third_none, placed_for, switch_copy, acting, connect_stage, done, tells_command, mark_telling, telling, places_past, at_left, at_switched, none_hold}
use Rattle.engine_api.specs.Shell.{facility_of, fresh_made}
use Rattle.struct_machine.proofs.FacilityLaws.{found_facility, InFacility, IsPlaceTold}

-- ---- what a command makes of the instances, and which deeds it has

-- a second one may be made
pub record IsSeconding (before : Instances) (deeds : Deeds) (cf : CfId) : Type 0 where
  pub place : IsFacility cf
  pub alone : before.secondary ≡ None
  pub stands : is_some before.primary ≡ true
  pub apart : IfSome before.primary (λ at. cf.0 ≢ at.0)
  pub back : deeds.back ≡ None
  pub make : deeds.make ≡ None

-- one of two may be dropped
pub record IsDropping (before : Instances) (deeds : Deeds) (cf : CfId) : Type 0 where
  pub there : (is_at cf before.primary || is_at cf before.secondary) ≡ true
  pub stands : is_some before.primary ≡ true
  pub two : is_some before.secondary ≡ true
  pub apart : is_at cf before.primary ≡ true → is_at cf before.secondary ≡ false
  pub back : deeds.back ≡ None
  pub make : deeds.make ≡ None
  pub second : deeds.second ≡ None

pub record IsPlacing (before : Shell) (acted : ShellOutcome) : Type 0 where
  pub places : acted.shell.instances
      ≡ places_past (is_some before.rebuild) acted.deeds (fresh_of before.rebuild) before.instances
  pub facility : IfSome acted.deeds.make IsFacility
  pub bare : is_some acted.deeds.make ≡ true → is_some before.rebuild ≡ false → before.instances.primary ≡ None
  pub second : IfSome acted.deeds.second (IsSeconding before.instances acted.deeds)
  pub dropped : IfSome acted.deeds.drop_at (IsDropping before.instances acted.deeds)
  pub switch : acted.deeds.switch ≡ true → (acted.deeds.second ≡ None) × (acted.deeds.drop_at ≡ None)
  pub back : is_some acted.deeds.back ≡ true → is_some before.instances.primary ≡ false
      → is_some acted.deeds.make ≡ true

-- deeds that change where instances stand by the end of all, or by a switch, alone
pub record IsCommon (deeds : Deeds) : Type 0 where
  pub back : deeds.back ≡ None
  pub make : deeds.make ≡ None
  pub second : deeds.second ≡ None
  pub drop_at : deeds.drop_at ≡ None

placing_common : (before : Shell) (acted : ShellOutcome)
    → IsCommon acted.deeds → acted.shell.instances ≡ (if acted.deeds.drop_all then no_instance
    else at_switched acted.deeds.switch (fresh_of before.rebuild) before.instances) → IsPlacing before acted
placing_common before acted common places = grind arith

nothing_common : IsCommon no_deeds
nothing_common = record { back = refl; make = refl; second = refl; drop_at = refl }

-- ---- a rebuild goes on

departure_places : (form : StrForm) (before shell : Shell) (by : ConnId) (keep : Bool)
    → shell.instances ≡ before.instances → IsPlacing before (departure_outcome form shell by keep)
departure_places form before shell by keep same = grind (arith, placing_common)

-- ---- what is lost

-- two instances stand apart
pub paired_apart : (cf : CfId) (shell : Shell) → IsPaired shell → is_at cf shell.instances.primary ≡ true
    → is_at cf shell.instances.secondary ≡ false
paired_apart cf shell paired there = grind (arith, false_from_ne_true, eqb-true)

places_left : (cf left : CfId) (before : Shell) (shell : Shell) → at_left cf before.instances ≡ record {
  primary = Some left;
  secondary = None;
} → (is_at cf before.instances.primary || is_at cf before.instances.secondary) ≡ true
    → is_some before.instances.secondary ≡ true → IsPaired before → IsPlacing before (simplex_outcome cf left shell)
places_left cf left before shell left_so there two paired = grind (arith, paired_apart)

pub loss_places : (form : StrForm) (cf : CfId) (before shell : Shell) → IsPaired before
    → shell.instances ≡ before.instances → IsPlacing before (loss_outcome form cf shell)
loss_places form cf before shell paired same = grind (arith, placing_common, nothing_common, places_left)

vary_places : (form : StrForm) (cf : CfId) (off : Bool) (before shell : Shell) → IsPaired before
    → shell.instances ≡ before.instances → IsPlacing before (vary_outcome form cf off shell)
vary_places form cf off before shell paired same = grind (arith, loss_places, placing_common, nothing_common)

-- ---- what tells no place

pub mark_told : (rebuild : Option Rebuild) (reply : ShellReply) → IsPlaceTold rebuild (mark_telling reply)
mark_told rebuild reply = grind arith

reached : (b : Bool) (xs ys : List (Option Refusal)) → b ≡ true → first_refusal (if b then xs else ys) ≡ None
    → first_refusal xs ≡ None
reached b xs ys is fine = grind arith

found : (place : Option CfId) → is_some place ≡ true → IfSome place IsFacility → IsFacility (facility_of place)
found place there is = grind arith

-- ---- commands

module _ {C R I S : Type 0} (meaning : Meaning C R I S) (form : StrForm) (machine : Machine S) (by : ConnId)
    (formed : IsForm form) (manned : IsManned machine.shell) where
  abbrev before_it : ShellCmd → Shell
  before_it command = acting meaning form machine by command

  abbrev IsTaken : ShellCmd → Type 0
  IsTaken command = shell_cause form (room_of meaning form machine) machine.shell by command ≡ None

  abbrev PlacesBy : ShellOutcome → Type 0
  PlacesBy acted = IsPlacing machine.shell acted

  -- ---- who connects first makes the primary

  idle_connect : (keep : Bool) → IsTaken (ShellCmd.Connect keep) → machine.shell.rebuild ≡ None
  idle_connect keep fine = grind (arith, idle_rebuild, third_none)

  next_places : (taken : Option Event) → PlacesBy (take_event (before_it ShellCmd.Next) by taken)
  next_places taken = grind (arith, placing_common, nothing_common)

  respond_places : (owed : Option Event) → PlacesBy (response_outcome (before_it ShellCmd.Respond) by owed)
  respond_places None = placing_common machine.shell _ nothing_common refl
  respond_places (Some answered) = grind (arith, placing_common, nothing_common)

  stop_places : (rebuild : Option Rebuild) → PlacesBy (stop_outcome (before_it ShellCmd.RebuildStop) rebuild)
  stop_places rebuild = grind (arith, placing_common, nothing_common)

  complete_places : (rebuild : Option Rebuild) → machine.shell.rebuild ≡ rebuild
      → PlacesBy (complete_outcome (before_it ShellCmd.RebuildComplete) by rebuild)
  complete_places None is = placing_common machine.shell _ nothing_common refl
  complete_places (Some rebuild) is = grind arith

  -- ---- who connects to the new instance first makes it

  connection_places : (rebuild : Option Rebuild) → machine.shell.rebuild ≡ rebuild → IsTaken ShellCmd.RebuildConnect
      → PlacesBy (rebuild_connect_outcome form (before_it ShellCmd.RebuildConnect) by rebuild)
  connection_places rebuild is fine =
      grind (arith, placing_common, nothing_common, false_from_ne_true, switch_copy, connect_stage, found_facility)

  -- a second instance stands in another facility
  second_places : IsTaken ShellCmd.DuplexStart → PlacesBy (done meaning form machine by ShellCmd.DuplexStart)
  second_places fine = grind (arith, none_hold, found, found_facility, placed_for, made_apart)

  -- ---- all of them

  pub placing_command : (command : ShellCmd) → IsTaken command
      → IsPlacing machine.shell (done meaning form machine by command)
  placing_command (ShellCmd.Connect keep) fine =
      grind (arith, idle_connect, found_facility, past_second, placed_for, reached)
  placing_command ShellCmd.Disconnect fine = grind (arith, departure_places)
  placing_command ShellCmd.Fail fine = grind (arith, departure_places)
  placing_command ShellCmd.Next fine = next_places (next_event (before_it ShellCmd.Next).mail by)
  placing_command ShellCmd.Respond fine = respond_places (owed_event (before_it ShellCmd.Respond).mail by)
  placing_command ShellCmd.RebuildStop fine = stop_places machine.shell.rebuild
  placing_command ShellCmd.RebuildConnect fine = connection_places machine.shell.rebuild refl fine
  placing_command ShellCmd.RebuildComplete fine = complete_places machine.shell.rebuild refl
  placing_command (ShellCmd.ForceConn other) fine = grind (arith, placing_common, done)
  placing_command ShellCmd.ForceStr fine = grind (arith, placing_common, done)
  placing_command (ShellCmd.Vary cf off) fine =
      vary_places form cf off machine.shell (before_it (ShellCmd.Vary cf off)) manned.paired refl
  placing_command ShellCmd.DuplexStart fine = second_places fine
  placing_command ShellCmd.DuplexStop fine =
      grind (arith, placing_common, nothing_common, eq-eqb, paired_apart, false_from_ne_true, eqb-true)
  placing_command command fine = grind (arith, placing_common, done, nothing_common)

  -- ---- the new instance stands in a facility

  place_found : (rebuild : Rebuild) → machine.shell.rebuild ≡ Some rebuild → IsTaken ShellCmd.RebuildConnect
      → rebuild.fresh ≡ None → IsFacility (facility_of (fresh_made form (before_it ShellCmd.RebuildConnect) by rebuild))
  place_found rebuild is fine none = grind (arith, found, placed_for, past_front, found_facility)

  told_places : (command : ShellCmd) → IsTaken command
      → IsPlaceTold machine.shell.rebuild (telling command (done meaning form machine by command).reply)
  told_places ShellCmd.Respond fine = grind arith
  told_places ShellCmd.RebuildStop fine = grind arith
  told_places ShellCmd.RebuildConnect fine = grind (arith, place_found)
  told_places ShellCmd.RebuildComplete fine = grind arith
  told_places (ShellCmd.Vary cf off) fine = grind (arith, mark_told, done)
  told_places command fine = tt

  pub facility_behind : (command : ShellCmd) → IsTaken command → InFacility machine.shell.rebuild
      → InFacility (done meaning form machine by command).shell.rebuild
  facility_behind command fine is = grind (arith, InFacility, tells_command, told_places)
