-- What structures of every kind share: instances, connections, events and rebuilds, and the commands on them. A command
-- is two columns: the first refusal that holds, and what the command does where none holds.
use Rattle.std.specs.Prelude.{ℕ, ◌+◌, ◌-◌, Bool, true, false, not, ◌&&◌, ◌||◌, ◌==◌, nat_le, nat_lt, min, if◌then◌else◌, List, [], ◌∷◌, ◌++◌, filter, replicate, Option, None, Some, is_none, is_some, unwrap_or, slice_get, slice_set, option_map}
use Rattle.cf_types.specs.declared.limits.TheConstants.{FACILITIES}
use Rattle.cf_types.specs.declared.forms.Caps.{Caps}
use Rattle.cf_types.specs.declared.forms.Kind.{Kind}
use Rattle.cf_types.specs.declared.forms.Kind.TheVariants as kind
use Rattle.cf_types.specs.declared.forms.StrForm.{StrForm}
use Rattle.cf_types.specs.declared.forms.Pref.{Pref}
use Rattle.cf_types.specs.declared.numbers.CfId.{CfId}
use Rattle.cf_types.specs.declared.numbers.ConnId.{ConnId}
use Rattle.cf_types.specs.declared.connections.ConnState.{ConnState}
use Rattle.cf_types.specs.declared.connections.ConnState.TheVariants as conn
use Rattle.cf_types.specs.declared.events.Event.{Event}
use Rattle.cf_types.specs.declared.events.Event.TheVariants as event
use Rattle.cf_types.specs.declared.events.Letter.{Letter}
use Rattle.cf_types.specs.declared.events.Stage.{Stage}
use Rattle.cf_types.specs.declared.events.Stage.TheVariants as stage
use Rattle.cf_types.specs.declared.refusals.Refusal.{Refusal}
use Rattle.cf_types.specs.declared.refusals.Refusal.TheVariants as refusal
use Rattle.cf_types.specs.declared.refusals.StateWord.TheVariants as word
use Rattle.cf_types.specs.declared.shell_commands.ShellCmd.{ShellCmd}
use Rattle.cf_types.specs.declared.shell_commands.ShellCmd.TheVariants as cmd
use Rattle.cf_types.specs.declared.shell_commands.ShellReply.{ShellReply}
use Rattle.cf_types.specs.declared.shell_commands.ShellReply.TheVariants as reply
use Rattle.cf_types.specs.ConnSets.{is_member, with_member, without_member}
use Rattle.cf_types.specs.Connections.{Connections, no_connections, state_of, is_active, actives, defined_count, with_connect, with_departure, with_answer, with_forced}
use Rattle.cf_types.specs.Mailboxes.{Mailboxes, empty_mail, next_event, owed_event, with_letters, letters_to, with_taken, with_response, with_cleared}
use Rattle.engine_api.specs.declared.asks.Ask.{Ask}
use Rattle.engine_api.specs.declared.asks.Ask.TheVariants as ask
use Rattle.engine_api.specs.declared.deeds.Deeds.{Deeds}
use Rattle.engine_api.specs.declared.deeds.Room.{Room}
use Rattle.engine_api.specs.Meaning.{first_refusal}
use Rattle.engine_api.specs.Instances.{Instances, no_instance, is_at, units_of, place_for, greatest_units}
use Rattle.engine_api.specs.Rebuilds.{fresh_of, letters_past, is_switch, is_copy, is_quiesced}
use Rattle.rebuild_core.specs.declared.rebuild.Rebuild.{Rebuild}
use Rattle.rebuild_core.specs.Stages.{new_rebuild, rebuild_in, without_owing, rebuild_without, outcome_of, is_response, rebuild_onward, rebuild_emptied, with_place}

pub record Shell : Type 0 where
  pub instances : Instances
  pub conns : Connections
  pub mail : Mailboxes
  -- the rebuild under way, and how many have begun
  pub rebuild : Option Rebuild
  pub started : ℕ
  -- for each facility by its number, the connectors that can't reach it
  pub severed : List (List ConnId)
  -- for each facility by its number, whether it is varied off for the structure
  pub off : List Bool
  -- the structure has lost its last instance
  pub failed : Bool
  -- the facility whose loss was that, as long as no call has come behind it
  pub lost : Option CfId
  -- the capacity of an instance that is made now
  pub caps : Caps

-- at first no instance stands, and nobody is connected
abbrev pub opening_shell : StrForm → Shell
opening_shell form =
    record {
      instances = no_instance;
      conns = no_connections;
      mail = empty_mail;
      rebuild = None;
      started = 0;
      severed = replicate (FACILITIES + 1) [];
      off = replicate (FACILITIES + 1) false;
      failed = false;
      lost = None;
      caps = form.caps;
    }

-- ---- connectivity, and places for an instance

abbrev pub severed_from : Shell → CfId → List ConnId
severed_from shell cf = unwrap_or (slice_get shell.severed cf.0) []

abbrev pub is_severed : Shell → ConnId → CfId → Bool
is_severed shell by cf = is_member by (severed_from shell cf)

-- an instance stands in the facility
abbrev pub stands_at : Shell → CfId → Bool
stands_at shell cf =
    is_at cf shell.instances.primary || (is_at cf shell.instances.secondary || is_at cf (fresh_of shell.rebuild))

abbrev pub is_off : Shell → CfId → Bool
is_off shell cf = unwrap_or (slice_get shell.off cf.0) false

-- the facility isn't varied off, no instance stands in it, and the caller reaches it
abbrev pub is_candidate : Shell → ConnId → Pref → Bool
is_candidate shell by pref =
    not (is_off shell pref.cf) && (not (stands_at shell pref.cf) && not (is_severed shell by pref.cf))

-- those of the facilities that the policy prefers, in order
abbrev pub candidates : StrForm → Shell → ConnId → List Pref
candidates form shell by = filter (is_candidate shell by) form.prefs

-- the capacity of an instance that is made now: a rebuild's, or that of the structure
abbrev pub caps_in : Option Rebuild → Caps → Caps
caps_in None caps = caps
caps_in (Some rebuild) caps = rebuild.caps

abbrev pub caps_made : Shell → Caps
caps_made shell = caps_in shell.rebuild shell.caps

-- ---- refusals

abbrev pub refusal_when : Bool → Refusal → Option Refusal
refusal_when true refusal = Some refusal
refusal_when false refusal = None

-- only an active connector may
abbrev pub unless_active : Shell → ConnId → Option Refusal
unless_active shell by = refusal_when (not (is_active shell.conns by)) refusal.NotConnected

-- the operator isn't asked for a connection of its own
abbrev pub is_operator : ConnId → Bool
is_operator by = by.0 == 0

abbrev pub is_empty : List ConnId → Bool
is_empty [] = true
is_empty (conn ∷ conns) = false

-- the operator may where somebody is active, and a connector that is active itself
abbrev pub unless_somebody : Shell → ConnId → Option Refusal
unless_somebody shell by =
    if is_operator by then refusal_when (is_empty (actives shell.conns)) refusal.NotConnected
    else unless_active shell by

abbrev pub unless_operator : Shell → ConnId → Option Refusal
unless_operator shell by = if is_operator by then None else unless_active shell by

-- a connector that is active or leaving can't connect
abbrev pub if_connected : Option ConnState → Option Refusal
if_connected (Some (conn.Active keep)) = Some (refusal.NameActive word.Active)
if_connected (Some (conn.Leaving keep awaits)) = Some (refusal.NameActive word.Leaving)
if_connected (Some conn.Failed) = None
if_connected None = None

-- one that is gone can't where the structure has all the connections that it admits
abbrev pub if_too_many : StrForm → Shell → ConnId → Option Refusal
if_too_many form shell by =
    refusal_when (is_none (state_of shell.conns by) && nat_le form.conns (defined_count shell.conns))
    (refusal.TooManyConns form.conns)

-- no facility can hold an instance, or none is large enough
abbrev pub if_no_place : ℕ → List Pref → Option Refusal
if_no_place units [] = Some refusal.NoFacility
if_no_place units (pref ∷ prefs) =
    refusal_when (is_none (place_for units (pref ∷ prefs))) (refusal.NoSpace units (greatest_units (pref ∷ prefs)))

-- a facility that the caller can't reach
abbrev pub if_severed : Shell → ConnId → Option CfId → Option Refusal
if_severed shell by None = None
if_severed shell by (Some cf) = refusal_when (is_severed shell by cf) (refusal.LostConn cf)

-- without an instance one must have a place; else the caller reaches those that stand
abbrev pub unless_reached : StrForm → Shell → ConnId → List (Option Refusal)
unless_reached form shell by =
    if is_none shell.instances.primary
    then if_no_place (units_of shell.caps) (candidates form shell by) ∷ []
    else if_severed shell by shell.instances.primary ∷ if_severed shell by shell.instances.secondary ∷ []

abbrev pub if_lost : Shell → Option Refusal
if_lost shell = option_map refusal.LostFacility shell.lost

abbrev pub if_failed : Shell → Option Refusal
if_failed shell = refusal_when shell.failed refusal.StructureFailed

abbrev pub if_duplexed : Shell → Option Refusal
if_duplexed shell = refusal_when (is_some shell.instances.secondary) refusal.AlreadyDuplexed

abbrev pub unless_allocated : Shell → Option Refusal
unless_allocated shell = refusal_when (is_none shell.instances.primary) refusal.NotAllocated

abbrev pub if_rebuilding : Option Rebuild → Option Refusal
if_rebuilding None = None
if_rebuilding (Some rebuild) = Some (refusal.RebuildInProgress rebuild.number)

abbrev pub unless_rebuilding : Option Rebuild → Option Refusal
unless_rebuilding None = Some refusal.NoRebuild
unless_rebuilding (Some rebuild) = None

abbrev pub wrong_stage : Bool → Rebuild → Option Refusal
wrong_stage wrong rebuild = refusal_when wrong (refusal.WrongStage rebuild.stage)

abbrev pub is_connect : Stage → Bool
is_connect stage.Quiesce = false
is_connect stage.Connect = true
is_connect stage.Copy = false
is_connect stage.Cleanup = false
is_connect stage.Stopping = false

-- a rebuild can be stopped up to COPY
abbrev pub can_stop : Stage → Bool
can_stop stage.Quiesce = true
can_stop stage.Connect = true
can_stop stage.Copy = true
can_stop stage.Cleanup = false
can_stop stage.Stopping = false

-- outside the stage that the command belongs to, or where the caller owes it no more
abbrev pub unless_owed : (Stage → Bool) → ConnId → Option Rebuild → Option Refusal
unless_owed is_its by None = None
unless_owed is_its by (Some rebuild) =
    wrong_stage (not (is_its rebuild.stage && is_member by rebuild.owing)) rebuild

abbrev pub unless_in : (Stage → Bool) → Option Rebuild → Option Refusal
unless_in is_its None = None
unless_in is_its (Some rebuild) = wrong_stage (not (is_its rebuild.stage)) rebuild

-- a capacity is too small for what there is
abbrev pub if_small : (need have : ℕ) → Option Refusal
if_small need have = refusal_when (nat_lt have need) (refusal.TooSmall need have)

-- in entries first, and then in elements; a lock structure has no limit of interests
abbrev pub if_too_small : Kind → (need caps : Caps) → List (Option Refusal)
if_too_small kind.Cache need caps = if_small need.entries caps.entries ∷ if_small need.elements caps.elements ∷ []
if_too_small (kind.List headers locks refs) need caps =
    if_small need.entries caps.entries ∷ if_small need.elements caps.elements ∷ []
if_too_small kind.Lock need caps = if_small need.elements caps.elements ∷ []

-- the first to connect needs a place that is large enough for what there is; the others reach the new instance
abbrev pub unless_copied_to : StrForm → Shell → Room → ConnId → Option Rebuild → List (Option Refusal)
unless_copied_to form shell room by None = []
unless_copied_to form shell room by (Some rebuild) =
    if is_none rebuild.fresh
    then if_too_small form.kind room.need rebuild.caps
    ++ if_no_place (units_of rebuild.caps) (candidates form shell by) ∷ []
    else if_severed shell by rebuild.fresh ∷ []

-- a content command of a member that is quiesced
abbrev pub if_quiesced : ConnId → Option Rebuild → Option Refusal
if_quiesced by None = None
if_quiesced by (Some rebuild) = refusal_when (is_quiesced by rebuild) (refusal.Quiesced rebuild.number)

-- only a failed connection can be forced away
abbrev pub unless_failed : Option ConnState → Option Refusal
unless_failed (Some (conn.Active keep)) = Some (refusal.NotFailed word.Active)
unless_failed (Some (conn.Leaving keep awaits)) = Some (refusal.NotFailed word.Leaving)
unless_failed (Some conn.Failed) = None
unless_failed None = Some (refusal.NotFailed word.Gone)

abbrev pub if_left : ℕ → Option Refusal
if_left left = refusal_when (nat_lt 0 left) (refusal.ItemsLeft left)

-- the refusals of each command, in their order
abbrev pub shell_causes : StrForm → Room → Shell → ConnId → ShellCmd → List (Option Refusal)
shell_causes form room shell by (cmd.Connect keep) =
    if_failed shell ∷ if_connected (state_of shell.conns by) ∷ if_rebuilding shell.rebuild
    ∷ if_too_many form shell by ∷ unless_reached form shell by
shell_causes form room shell by cmd.Disconnect = unless_active shell by ∷ []
shell_causes form room shell by cmd.Fail = unless_active shell by ∷ []
shell_causes form room shell by cmd.Next =
    unless_active shell by ∷ refusal_when (is_none (next_event shell.mail by)) refusal.NoEvent ∷ []
shell_causes form room shell by cmd.Respond =
    unless_active shell by ∷ refusal_when (is_none (owed_event shell.mail by)) refusal.NothingOwed ∷ []
shell_causes form room shell by (cmd.RebuildStart caps) =
    unless_somebody shell by ∷ if_failed shell ∷ if_rebuilding shell.rebuild ∷ if_duplexed shell ∷ []
shell_causes form room shell by cmd.RebuildStop =
    unless_operator shell by ∷ if_failed shell ∷ unless_rebuilding shell.rebuild
    ∷ unless_in can_stop shell.rebuild ∷ []
shell_causes form room shell by cmd.RebuildConnect =
    unless_active shell by ∷ if_failed shell ∷ unless_rebuilding shell.rebuild
    ∷ unless_owed is_connect by shell.rebuild ∷ unless_copied_to form shell room by shell.rebuild
shell_causes form room shell by (cmd.Copy n) =
    unless_active shell by ∷ if_lost shell ∷ if_failed shell ∷ unless_rebuilding shell.rebuild
    ∷ unless_in is_copy shell.rebuild ∷ if_severed shell by shell.instances.primary
    ∷ if_severed shell by (fresh_of shell.rebuild) ∷ []
shell_causes form room shell by cmd.RebuildComplete =
    unless_active shell by ∷ if_failed shell ∷ unless_rebuilding shell.rebuild
    ∷ unless_owed is_copy by shell.rebuild ∷ if_left room.left ∷ []
shell_causes form room shell by (cmd.ForceConn other) = unless_failed (state_of shell.conns other) ∷ []
shell_causes form room shell by cmd.ForceStr =
    refusal_when (nat_lt 0 (defined_count shell.conns)) (refusal.HasConnections (defined_count shell.conns)) ∷ []
shell_causes form room shell by (cmd.LoseConn other cf) = []
shell_causes form room shell by (cmd.RestoreConn other cf) = []
shell_causes form room shell by (cmd.Vary cf off) = []
shell_causes form room shell by cmd.DuplexStart =
    if_failed shell ∷ if_rebuilding shell.rebuild ∷ if_duplexed shell ∷ unless_allocated shell
    ∷ if_no_place (units_of shell.caps) (candidates form shell by) ∷ []
shell_causes form room shell by cmd.DuplexStop = []

abbrev pub shell_cause : StrForm → Room → Shell → ConnId → ShellCmd → Option Refusal
shell_cause form room shell by command = first_refusal (shell_causes form room shell by command)

-- the refusal of a command on the content, before the engine is asked
abbrev pub content_cause : Shell → ConnId → Option Refusal
content_cause shell by =
    first_refusal (unless_active shell by ∷ if_lost shell ∷ if_failed shell ∷ if_quiesced by shell.rebuild
    ∷ if_severed shell by shell.instances.primary ∷ if_severed shell by shell.instances.secondary ∷ [])

-- the refusal of a call by the shell
abbrev pub call_cause : {C : Type 0} → StrForm → Room → Shell → ConnId → Ask C → Option Refusal
call_cause form room shell by (ask.Shell command) = shell_cause form room shell by command
call_cause form room shell by (ask.Content command) = content_cause shell by

-- ---- what is done

-- a departure: who departs, and whether the interests that outlive a failure stay
pub record Leaver : Type 0 where
  pub conn : ConnId
  pub keep : Bool

-- the connection stays, as failed, when its connector fails
abbrev pub is_kept : Option ConnState → Bool
is_kept (Some (conn.Active keep)) = keep
is_kept (Some (conn.Leaving keep awaits)) = keep
is_kept (Some conn.Failed) = true
is_kept None = false

-- the departure from the content that a command brings
abbrev pub leaver : Shell → ConnId → ShellCmd → Option Leaver
leaver shell by (cmd.Connect keep) = None
leaver shell by cmd.Disconnect = Some (record { conn = by; keep = false })
leaver shell by cmd.Fail = Some (record { conn = by; keep = is_kept (state_of shell.conns by) })
leaver shell by cmd.Next = None
leaver shell by cmd.Respond = None
leaver shell by (cmd.RebuildStart caps) = None
leaver shell by cmd.RebuildStop = None
leaver shell by cmd.RebuildConnect = None
leaver shell by (cmd.Copy n) = None
leaver shell by cmd.RebuildComplete = None
leaver shell by (cmd.ForceConn other) = Some (record { conn = other; keep = false })
leaver shell by cmd.ForceStr = None
leaver shell by (cmd.LoseConn other cf) = None
leaver shell by (cmd.RestoreConn other cf) = None
leaver shell by (cmd.Vary cf off) = None
leaver shell by cmd.DuplexStart = None
leaver shell by cmd.DuplexStop = None

-- what a command answers, what it leaves, and what it does to the instances and their content
pub record ShellOutcome : Type 0 where
  pub reply : ShellReply
  pub shell : Shell
  pub deeds : Deeds

abbrev pub no_deeds : Deeds
no_deeds =
    record {
      back = None;
      make = None;
      second = None;
      drop_at = None;
      restart = false;
      switch = false;
      drop_fresh = false;
      drop_all = false;
    }

-- letters are posted in their order
abbrev pub with_posted : List Letter → Shell → Shell
with_posted letters shell = record shell { mail = with_letters shell.mail letters }

-- a structure whose disposition is DELETE goes with its last connection
abbrev pub goes : StrForm → Connections → Bool
goes form conns = not form.keep && (defined_count conns == 0)

-- it has the policy's capacity again then, and has not failed
abbrev pub deallocated : StrForm → Shell → Shell
deallocated form shell = record shell { instances = no_instance; failed = false; caps = form.caps }

abbrev pub unless_gone : StrForm → Shell → Shell
unless_gone form shell =
    let gone = goes form shell.conns in
    record shell {
      instances = if gone then no_instance else shell.instances;
      failed = not gone && shell.failed;
      caps = if gone then form.caps else shell.caps;
    }

-- where no primary stands one is made in the first place that is large enough
abbrev pub made_at : StrForm → Shell → ConnId → Option CfId
made_at form shell by =
    if is_none shell.instances.primary then place_for (units_of shell.caps) (candidates form shell by) else None

abbrev pub with_primary : Option CfId → Instances → Instances
with_primary None instances = instances
with_primary (Some cf) instances = record instances { primary = Some cf }

abbrev pub facility_of : Option CfId → CfId
facility_of at = unwrap_or at (record { 0 = 0 })

-- the connector becomes active, and the other active ones are told
abbrev pub connected_shell : StrForm → Shell → ConnId → Bool → Shell
connected_shell form shell by keep =
    let others = without_member by (actives shell.conns) in
    record shell {
      instances = with_primary (made_at form shell by) shell.instances;
      conns = with_connect by keep shell.conns;
      mail = with_letters shell.mail (letters_to others (event.NewConn by));
    }

-- a failed connection is taken up again
abbrev pub connect_outcome : StrForm → Shell → ConnId → Bool → ShellOutcome
connect_outcome form shell by keep =
    let failed = is_some (state_of shell.conns by) in
    let shell' = connected_shell form shell by keep in
    let primary = facility_of shell'.instances.primary in
    record {
      reply = if failed then reply.Reconnected primary else reply.OkNew primary;
      shell = shell';
      deeds = record no_deeds { back = if failed then Some by else None; make = made_at form shell by };
    }

-- ---- rebuilds

-- a rebuild goes on, or its stage has passed: then its members are told, and behind COPY the new instance takes the
-- old one's place
abbrev pub switched : Bool → Rebuild → Shell → Shell
switched switch rebuild shell =
    record shell {
      instances = record shell.instances { primary = if switch then rebuild.fresh else shell.instances.primary };
      caps = if switch then rebuild.caps else shell.caps;
    }

abbrev pub shell_onward : Rebuild → Shell → Shell
shell_onward rebuild shell =
    switched (is_switch (outcome_of rebuild)) rebuild
    (with_posted (letters_past rebuild) (record shell { rebuild = rebuild_onward rebuild }))

-- the connector gave what the stage waits for
abbrev pub given_outcome : ShellReply → ConnId → Rebuild → Shell → ShellOutcome
given_outcome answer by rebuild shell =
    let given = without_owing by rebuild in
    record {
      reply = answer;
      shell = shell_onward given shell;
      deeds = record no_deeds { switch = is_switch (outcome_of given) };
    }

abbrev pub start_outcome : Shell → Caps → ShellOutcome
start_outcome shell caps =
    let number = shell.started + 1 in
    let members = actives shell.conns in
    record {
      reply = reply.OkNumber number;
      shell = with_posted (letters_to members (event.Quiesce number)) (record shell {
        rebuild = Some (new_rebuild number members caps);
        started = number;
      });
      deeds = no_deeds;
    }

-- the members are told that the rebuild stops
abbrev pub stopped_shell : Rebuild → Shell → Shell
stopped_shell rebuild shell =
    with_posted (letters_to rebuild.members (event.Stop rebuild.number))
    (record shell { rebuild = Some (rebuild_in stage.Stopping rebuild) })

-- the new instance is dropped
abbrev pub stop_outcome : Shell → Option Rebuild → ShellOutcome
stop_outcome shell None = record { reply = reply.Ok; shell = shell; deeds = no_deeds }
stop_outcome shell (Some rebuild) =
    record {
      reply = reply.Ok;
      shell = stopped_shell rebuild shell;
      deeds = record no_deeds { drop_fresh = is_some rebuild.fresh };
    }

-- the first to connect makes the new instance
abbrev pub fresh_made : StrForm → Shell → ConnId → Rebuild → Option CfId
fresh_made form shell by rebuild =
    if is_none rebuild.fresh then place_for (units_of rebuild.caps) (candidates form shell by) else None

abbrev pub rebuild_connect_outcome : StrForm → Shell → ConnId → Option Rebuild → ShellOutcome
rebuild_connect_outcome form shell by None = record { reply = reply.Ok; shell = shell; deeds = no_deeds }
rebuild_connect_outcome form shell by (Some rebuild) =
    let made = fresh_made form shell by rebuild in
    let at = unwrap_or rebuild.fresh (facility_of made) in
    let given = given_outcome (reply.OkAt at) by (with_place at rebuild) shell in
    record given { deeds = record given.deeds { make = made } }

abbrev pub complete_outcome : Shell → ConnId → Option Rebuild → ShellOutcome
complete_outcome shell by None = record { reply = reply.Ok; shell = shell; deeds = no_deeds }
complete_outcome shell by (Some rebuild) = given_outcome reply.Ok by rebuild shell

-- ---- departures

-- what a departure makes of a rebuild: a stage may pass; in COPY the new instance is emptied; and where no member is
-- left the rebuild ends, and the new instance is dropped
abbrev pub shell_without : ConnId → Option Rebuild → Shell → Shell
shell_without by None shell = shell
shell_without by (Some rebuild) shell = shell_onward (rebuild_without by rebuild) shell

abbrev pub is_restart : Option Rebuild → Option Rebuild → Bool
is_restart (Some rebuild) (Some after) = is_copy rebuild.stage
is_restart (Some rebuild) None = false
is_restart None after = false

abbrev pub is_drop : Option Rebuild → Option Rebuild → Bool
is_drop before after = is_some (fresh_of before) && is_none after

-- a connector departs: its events end, nobody awaits it any more, and the connectors that are active then are told
abbrev pub departing_shell : StrForm → Shell → ConnId → Bool → Shell
departing_shell form shell by keep =
    let conns = with_departure by keep shell.conns in
    let left = shell_without by shell.rebuild (record shell { mail = with_cleared by shell.mail }) in
    unless_gone form (with_posted (letters_to (actives conns) (event.DiscFail by)) (record left { conns = conns }))

abbrev pub departure_outcome : StrForm → Shell → ConnId → Bool → ShellOutcome
departure_outcome form shell by keep =
    let shell' = departing_shell form shell by keep in
    record {
      reply = reply.Ok;
      shell = shell';
      deeds = record no_deeds {
        restart = is_restart shell.rebuild shell'.rebuild;
        drop_fresh = is_drop shell.rebuild shell'.rebuild;
        drop_all = goes form shell'.conns;
      };
    }

-- a failed connection is gone; in COPY the new instance is emptied
abbrev pub emptied : Option Rebuild → Option Rebuild
emptied None = None
emptied (Some rebuild) = Some (rebuild_emptied rebuild.stage rebuild)

abbrev pub force_connection : StrForm → Shell → ConnId → ShellOutcome
force_connection form shell other =
    let conns = with_forced other shell.conns in
    record {
      reply = reply.Ok;
      shell = unless_gone form (record shell { conns = conns; rebuild = emptied shell.rebuild });
      deeds = record no_deeds { restart = is_restart shell.rebuild shell.rebuild; drop_all = goes form conns };
    }

-- the structure is deallocated
abbrev pub force_structure : StrForm → Shell → ShellOutcome
force_structure form shell =
    record { reply = reply.Ok; shell = deallocated form shell; deeds = record no_deeds { drop_all = true } }

-- ---- events

-- the first event that waits is taken
abbrev pub take_event : Shell → ConnId → Option Event → ShellOutcome
take_event shell by None = record { reply = reply.OkNone; shell = shell; deeds = no_deeds }
take_event shell by (Some taken) =
    record { reply = reply.Event taken; shell = record shell { mail = with_taken by shell.mail }; deeds = no_deeds }

-- the connections after an event was answered
abbrev pub conns_answered : ConnId → Event → Connections → Connections
conns_answered by (event.NewConn other) conns = conns
conns_answered by (event.DiscFail other) conns = with_answer by other conns
conns_answered by (event.Quiesce number) conns = conns
conns_answered by (event.RebuildConnect number) conns = conns
conns_answered by (event.ConnectsDone number) conns = conns
conns_answered by (event.Cleanup number) conns = conns
conns_answered by (event.Complete number) conns = conns
conns_answered by (event.Stop number) conns = conns
conns_answered by (event.StopDone number) conns = conns
conns_answered by (event.LostConn cf) conns = conns
conns_answered by event.StrFail conns = conns
conns_answered by (event.Contention r other) conns = conns
conns_answered by (event.Notify r other) conns = conns
conns_answered by (event.Granted r excl) conns = conns
conns_answered by (event.Denied r) conns = conns

-- a response to the event that the stage waits for is given; another is accepted, and changes no rebuild
abbrev pub responded : ConnId → Event → Option Rebuild → Shell → ShellOutcome
responded by answered None shell = record { reply = reply.Responded answered; shell = shell; deeds = no_deeds }
responded by answered (Some rebuild) shell =
    if is_response rebuild.stage rebuild.number answered
    then given_outcome (reply.Responded answered) by rebuild shell
    else record { reply = reply.Responded answered; shell = shell; deeds = no_deeds }

-- the oldest event that is owed is answered
abbrev pub response_outcome : Shell → ConnId → Option Event → ShellOutcome
response_outcome shell by None = record { reply = reply.OkNone; shell = shell; deeds = no_deeds }
response_outcome shell by (Some answered) =
    responded by answered shell.rebuild
    (record shell { conns = conns_answered by answered shell.conns; mail = with_response by shell.mail })

-- ---- connectivity

abbrev pub with_severed : CfId → List ConnId → Shell → Shell
with_severed cf conns shell = record shell { severed = slice_set shell.severed cf.0 conns }

-- the connector can't reach the facility any more; where that is new and it is active, it is told
abbrev pub lose_outcome : Shell → ConnId → CfId → ShellOutcome
lose_outcome shell other cf =
    let told = if is_active shell.conns other && not (is_severed shell other cf)
    then letters_to (other ∷ []) (event.LostConn cf) else [] in
    record {
      reply = reply.Ok;
      shell = with_posted told (with_severed cf (with_member other (severed_from shell cf)) shell);
      deeds = no_deeds;
    }

abbrev pub restore_outcome : Shell → ConnId → CfId → ShellOutcome
restore_outcome shell other cf =
    record {
      reply = reply.Ok;
      shell = with_severed cf (without_member other (severed_from shell cf)) shell;
      deeds = no_deeds;
    }

-- ---- instances that are lost

-- a duplexed structure loses the one in this facility, and the other is its only one; which stands there
abbrev pub with_simplex : CfId → Shell → Shell
with_simplex left shell = record shell { instances = record { primary = Some left; secondary = None } }

abbrev pub simplex_outcome : (lost left : CfId) → Shell → ShellOutcome
simplex_outcome lost left shell =
    record {
      reply = reply.Simplex left;
      shell = with_simplex left shell;
      deeds = record no_deeds { drop_at = Some lost };
    }

-- a rebuild loses its new instance, and stops
abbrev pub stopped_outcome : Rebuild → Shell → ShellOutcome
stopped_outcome rebuild shell =
    record {
      reply = reply.Stopped rebuild.number;
      shell = stopped_shell rebuild shell;
      deeds = record no_deeds { drop_fresh = true };
    }

-- the last instance is lost: the structure fails, a rebuild that there is ends, and the active connectors are told
abbrev pub failed_outcome : StrForm → Shell → ShellOutcome
failed_outcome form shell =
    record {
      reply = reply.FailedNow;
      shell = with_posted (letters_to (actives shell.conns) event.StrFail)
          (record shell { instances = no_instance; rebuild = None; failed = true; caps = form.caps });
      deeds = record no_deeds { drop_all = true };
    }

abbrev pub idle_outcome : ShellReply → Shell → ShellOutcome
idle_outcome answer shell = record { reply = answer; shell = shell; deeds = no_deeds }

-- the new instance of a rebuild stands in the facility, or nothing does
abbrev pub fresh_loss : CfId → Option Rebuild → Shell → ShellOutcome
fresh_loss cf None shell = idle_outcome reply.OkNone shell
fresh_loss cf (Some rebuild) shell =
    if is_at cf rebuild.fresh then stopped_outcome rebuild shell else idle_outcome reply.OkNone shell

-- the primary in the facility is lost: the secondary is the primary then, where one stands
abbrev pub primary_loss : StrForm → CfId → Option CfId → Shell → ShellOutcome
primary_loss form cf None shell = failed_outcome form shell
primary_loss form cf (Some other) shell = simplex_outcome cf other shell

-- what stands in a facility is lost
abbrev pub loss_outcome : StrForm → CfId → Shell → ShellOutcome
loss_outcome form cf shell =
    if is_at cf shell.instances.primary then primary_loss form cf shell.instances.secondary shell
    else if is_at cf shell.instances.secondary
    then simplex_outcome cf (facility_of shell.instances.primary) shell
    else fresh_loss cf shell.rebuild shell

-- as a link tells it: where the structure failed, the call behind it is told of which facility
abbrev pub mark_outcome : StrForm → CfId → Shell → ShellOutcome
mark_outcome form cf shell =
    let lost = loss_outcome form cf shell in
    record lost { shell = record lost.shell { lost = if lost.shell.failed then Some cf else None } }

-- a call has come
abbrev pub entered : Shell → Shell
entered shell = record shell { lost = None }

-- a facility is varied off, or on again, for the structure
abbrev pub with_off : CfId → Bool → Shell → Shell
with_off cf off shell = record shell { off = slice_set shell.off cf.0 off }

abbrev pub vary_outcome : StrForm → CfId → Bool → Shell → ShellOutcome
vary_outcome form cf true shell = loss_outcome form cf (with_off cf true shell)
vary_outcome form cf false shell = idle_outcome reply.Ok (with_off cf false shell)

-- ---- duplexing

abbrev pub with_secondary : Option CfId → Shell → Shell
with_secondary at shell = record shell { instances = record shell.instances { secondary = at } }

-- a second instance is made in the first place that is large enough
abbrev pub duplex_outcome : StrForm → Shell → ConnId → ShellOutcome
duplex_outcome form shell by =
    let at = facility_of (place_for (units_of shell.caps) (candidates form shell by)) in
    record {
      reply = reply.OkAt at;
      shell = with_secondary (Some at) shell;
      deeds = record no_deeds { second = Some at };
    }

-- the secondary is dropped
abbrev pub simplex_again : Option CfId → Shell → ShellOutcome
simplex_again None shell = idle_outcome reply.OkNone shell
simplex_again (Some cf) shell =
    record {
      reply = reply.OkAt cf;
      shell = with_secondary None shell;
      deeds = record no_deeds { drop_at = Some cf };
    }

-- so many items are moved, as long as there are any
abbrev pub copy_outcome : Shell → Room → ℕ → ShellOutcome
copy_outcome shell room n =
    let moved = min n room.left in
    record { reply = reply.Copied moved (room.left - moved); shell = shell; deeds = no_deeds }

-- what each command does where it isn't refused
abbrev pub shell_done : StrForm → Room → Shell → ConnId → ShellCmd → ShellOutcome
shell_done form room shell by (cmd.Connect keep) = connect_outcome form shell by keep
shell_done form room shell by cmd.Disconnect = departure_outcome form shell by false
shell_done form room shell by cmd.Fail = departure_outcome form shell by (is_kept (state_of shell.conns by))
shell_done form room shell by cmd.Next = take_event shell by (next_event shell.mail by)
shell_done form room shell by cmd.Respond = response_outcome shell by (owed_event shell.mail by)
shell_done form room shell by (cmd.RebuildStart caps) = start_outcome shell caps
shell_done form room shell by cmd.RebuildStop = stop_outcome shell shell.rebuild
shell_done form room shell by cmd.RebuildConnect = rebuild_connect_outcome form shell by shell.rebuild
shell_done form room shell by (cmd.Copy n) = copy_outcome shell room n
shell_done form room shell by cmd.RebuildComplete = complete_outcome shell by shell.rebuild
shell_done form room shell by (cmd.ForceConn other) = force_connection form shell other
shell_done form room shell by cmd.ForceStr = force_structure form shell
shell_done form room shell by (cmd.LoseConn other cf) = lose_outcome shell other cf
shell_done form room shell by (cmd.RestoreConn other cf) = restore_outcome shell other cf
shell_done form room shell by (cmd.Vary cf off) = vary_outcome form cf off shell
shell_done form room shell by cmd.DuplexStart = duplex_outcome form shell by
shell_done form room shell by cmd.DuplexStop = simplex_again shell.instances.secondary shell
