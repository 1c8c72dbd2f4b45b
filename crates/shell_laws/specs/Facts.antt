-- What else a history tells: how many items are copied into a rebuild's new instance, who is quiesced, which facilities a
-- connector can't reach and which are varied off, whether the structure has failed, and the capacity of its instances.
use Rattle.std.specs.Prelude.{ℕ, Bool, true, false, not, ◌&&◌, ◌||◌, ◌==◌, if◌then◌else◌, List, [], ◌∷◌, ◌++◌, filter, fold, sum_by, Option, None, Some, unwrap_or}
use Rattle.cf_types.specs.declared.events.Stage.{Stage}
use Rattle.cf_types.specs.declared.events.Stage.TheVariants.{Quiesce, Connect, Copy, Cleanup, Stopping}
use Rattle.cf_types.specs.declared.forms.Caps.{Caps}
use Rattle.cf_types.specs.declared.forms.Pref.{Pref}
use Rattle.cf_types.specs.declared.forms.StrForm.{StrForm}
use Rattle.cf_types.specs.declared.numbers.CfId.{CfId}
use Rattle.cf_types.specs.declared.numbers.ConnId.{ConnId}
use Rattle.cf_types.specs.declared.shell_commands.ShellCmd.{ShellCmd}
use Rattle.cf_types.specs.declared.shell_commands.ShellCmd.TheVariants as cmd
use Rattle.cf_types.specs.ConnSets.{is_member}
use Rattle.cf_types.specs.Connections.{Connections}
use Rattle.engine_api.specs.declared.asks.Ask.TheVariants as ask
use Rattle.engine_api.specs.declared.asks.Reply.{Reply}
use Rattle.engine_api.specs.declared.asks.Reply.TheVariants as reply
use Rattle.engine_api.specs.declared.asks.What.{What}
use Rattle.engine_api.specs.declared.asks.What.TheVariants as what
use Rattle.engine_api.specs.declared.histories.Entry.{Entry}
use Rattle.engine_api.specs.Rebuilds.{is_copy}
use Rattle.engine_api.specs.Shell.{goes}
use Rattle.engine_api.specs.RebuildCore.declared.rebuild.Rebuild.{Rebuild}
use Rattle.shell_laws.specs.Readings.{Reading, has_given, read_from, rebuild_told}
use Rattle.shell_laws.specs.Tellings.{Telling, TellingEntry, telling_entry}
use Rattle.shell_laws.specs.Tellings.Telling.{Starts, Copies, Departs, Forces, Deallocates, Fails}

-- ---- the items that are copied

abbrev pub items_told : Telling → ℕ
items_told (Copies moved) = moved
items_told _ = 0

-- in COPY, those told since it began, or since a departure or the forcing of a connection emptied the new instance
abbrev pub copied_in : Option Reading → ℕ
copied_in None = 0
copied_in (Some read) =
    if is_copy read.stage then sum_by (λ entry. items_told entry.telling) read.entries else 0

-- ---- who is quiesced

abbrev pub is_stopping : Stage → Bool
is_stopping Stopping = true
is_stopping _ = false

abbrev pub is_start : Telling → Bool
is_start (Starts number caps) = true
is_start _ = false

-- the entries behind the last start of a rebuild, the last one first
abbrev pub with_behind : List TellingEntry → TellingEntry → List TellingEntry
with_behind entries entry = if is_start entry.telling then [] else entry ∷ entries

-- the number of the rebuild, where it isn't being stopped, for a member that responded to QUIESCE in it
abbrev pub quiesced_in : ConnId → (behind : List TellingEntry) → Option Reading → Option ℕ
quiesced_in conn behind None = None
quiesced_in conn behind (Some read) =
    if not (is_stopping read.stage)
    && (is_member conn read.members && has_given Quiesce read.number behind conn)
    then Some read.number else None

-- ---- failure, the structure's end, and its capacity

abbrev pub is_failure : Telling → Bool
is_failure Fails = true
is_failure _ = false

-- the structure is deallocated: it is forced away; or its last connection goes, where it goes with that
abbrev pub is_end : (last : Bool) → Telling → Bool
is_end last Deallocates = true
is_end last Departs = last
is_end last Forces = last
is_end last _ = false

-- it has failed from its failure on, until it is deallocated
abbrev pub failed_by : (last : Bool) → Telling → Bool → Bool
failed_by last told failed = is_failure told || (not (is_end last told) && failed)

abbrev pub is_cleanup : Stage → Bool
is_cleanup Cleanup = true
is_cleanup _ = false

-- once COPY has passed the capacity is the rebuild's
abbrev pub caps_past : (before after : Option Rebuild) → Caps → Caps
caps_past (Some before) (Some after) caps =
    if is_copy before.stage && is_cleanup after.stage then before.caps else caps
caps_past (Some before) None caps = caps
caps_past None after caps = caps

-- a structure that failed, or is deallocated, has the policy's again
abbrev pub caps_by : Caps → (last : Bool) → Telling → (before after : Option Rebuild) → Caps → Caps
caps_by policy last told before after caps =
    if is_failure told || is_end last told then policy else caps_past before after caps

-- ---- facilities

-- a command that tells whether the connector can't reach the facility, and one that tells whether this is varied off
abbrev pub severs : ConnId → CfId → ShellCmd → Option Bool
severs conn cf (cmd.LoseConn other at) =
    if at.0 == cf.0 && other.0 == conn.0 then Some true else None
severs conn cf (cmd.RestoreConn other at) =
    if at.0 == cf.0 && other.0 == conn.0 then Some false else None
severs conn cf _ = None

abbrev pub varies : CfId → ShellCmd → Option Bool
varies cf (cmd.Vary at off) = if at.0 == cf.0 then Some off else None
varies cf _ = None

module _ {C R : Type 0} where
  -- what an accepted command tells
  abbrev pub told_by : (ShellCmd → Option Bool) → What C → Reply R → Option Bool
  told_by tells (what.Call (ask.Shell command)) (reply.Shell answer) = tells command
  told_by tells _ _ = None

  abbrev pub told_next : (ShellCmd → Option Bool) → Bool → Entry C R → Bool
  told_next tells so_far entry = unwrap_or (told_by tells entry.what entry.reply) so_far

  -- what the last one tells that tells of it; and no, where none does
  abbrev pub last_told : (ShellCmd → Option Bool) → List (Entry C R) → Bool
  last_told tells history = fold (told_next tells) false history

  -- the last accepted LOSECONN or RESTORECONN of the connector and the facility is a LOSECONN
  abbrev pub lost_told : List (Entry C R) → ConnId → CfId → Bool
  lost_told history conn cf = last_told (severs conn cf) history

  -- the last VARY of the facility is OFF
  abbrev pub varied_told : List (Entry C R) → CfId → Bool
  varied_told history cf = last_told (varies cf) history

  -- of the facilities that the policy prefers, in order, those that aren't varied off, hold no instance and are reached
  abbrev pub candidates_told : StrForm → (stands_at : CfId → Bool) → List (Entry C R) → ConnId → List Pref
  candidates_told form stands_at history conn =
      filter (λ pref. not (varied_told history pref.cf)
      && (not (stands_at pref.cf) && not (lost_told history conn pref.cf))) form.prefs

-- ---- a whole history

-- what is told of the entries behind those before, from what was told of these
abbrev pub told_from : {C R X : Type 0} → ((before : List (Entry C R)) → Entry C R → X → X)
    → (before entries : List (Entry C R)) → X → X
told_from next before [] told = told
told_from next before (entry ∷ entries) told =
    told_from next (before ++ entry ∷ []) entries (next before entry told)

module _ {C R : Type 0} where
  abbrev pub next_behind : List TellingEntry → Entry C R → List TellingEntry
  next_behind entries entry = with_behind entries (telling_entry entry)

  abbrev pub behind_start : List (Entry C R) → List TellingEntry
  behind_start history = fold next_behind [] history

-- given who is active behind the first entries of a history
module _ {C R : Type 0} (actives_after : List (Entry C R) → List ConnId) where
  abbrev pub reading_told : List (Entry C R) → Option Reading
  reading_told history = read_from actives_after [] history None

  abbrev pub copied_told : List (Entry C R) → ℕ
  copied_told history = copied_in (reading_told history)

  abbrev pub quiesced_told : List (Entry C R) → ConnId → Option ℕ
  quiesced_told history conn = quiesced_in conn (behind_start history) (reading_told history)

-- given the form of the structure, and the connections behind the first entries
module _ {C R : Type 0} (form : StrForm) (conns_after : List (Entry C R) → Connections) where
  -- nobody is connected behind an entry, and the structure goes with its last connection
  abbrev pub goes_behind : (before : List (Entry C R)) → Entry C R → Bool
  goes_behind before entry = goes form (conns_after (before ++ entry ∷ []))

  abbrev pub failed_next : (before : List (Entry C R)) → Entry C R → Bool → Bool
  failed_next before entry failed =
      failed_by (goes_behind before entry) (telling_entry entry).telling failed

  abbrev pub failed_told : List (Entry C R) → Bool
  failed_told history = told_from failed_next [] history false

  -- given who is active, too
  module _ (actives_after : List (Entry C R) → List ConnId) where
    abbrev pub caps_next : (before : List (Entry C R)) → Entry C R → Caps → Caps
    caps_next before entry caps =
        caps_by form.caps (goes_behind before entry) (telling_entry entry).telling
        (rebuild_told actives_after before) (rebuild_told actives_after (before ++ entry ∷ [])) caps

    abbrev pub capacity_told : List (Entry C R) → Caps
    capacity_told history = told_from caps_next [] history form.caps
