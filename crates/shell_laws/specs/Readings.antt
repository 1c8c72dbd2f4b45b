-- The rebuild that a history tells of, read from its first entry on.
use Rattle.std.specs.Prelude.{ℕ, Bool, not, ◌&&◌, ◌==◌, if◌then◌else◌, List, [], ◌∷◌, ◌++◌, filter, Option, None, Some, option_map, unwrap_or}
use Rattle.std.specs.List.{list_any}
use Rattle.cf_types.specs.declared.events.Stage.{Stage}
use Rattle.cf_types.specs.declared.events.Stage.TheVariants.{Quiesce, Connect, Copy, Cleanup, Stopping}
use Rattle.cf_types.specs.declared.forms.Caps.{Caps}
use Rattle.cf_types.specs.declared.numbers.CfId.{CfId}
use Rattle.cf_types.specs.declared.numbers.ConnId.{ConnId}
use Rattle.cf_types.specs.ConnSets.{without_member}
use Rattle.engine_api.specs.declared.histories.Entry.{Entry}
use Rattle.engine_api.specs.Rebuilds.{is_copy}
use Rattle.engine_api.specs.RebuildCore.declared.rebuild.Rebuild.{Rebuild}
use Rattle.engine_api.specs.RebuildCore.Stages.{fresh_in}
use Rattle.shell_laws.specs.Tellings.{Telling, TellingEntry, is_awaited, is_emptying, telling_entry}
use Rattle.shell_laws.specs.Tellings.Telling.{Starts, Places, Stops, Departs, Fails}

-- what is read of a rebuild that is under way
pub record Reading : Type 0 where
  pub number : ℕ
  pub caps : Caps
  -- the connectors that were active at its start and haven't departed since
  pub members : List ConnId
  pub stage : Stage
  -- those of its stage, the last one first; in COPY those behind the last departure or forcing
  pub entries : List TellingEntry
  -- where the first REBUILD CONNECT put the new instance
  pub place : Option CfId

-- one of these entries is the connector's, and gives what the stage waits for
abbrev pub has_given : Stage → ℕ → List TellingEntry → ConnId → Bool
has_given stage number entries conn =
    list_any (λ entry. (conn.0 == entry.by.0) && is_awaited stage number entry.telling) entries

-- the members who haven't given it
abbrev pub awaited : Reading → List ConnId
awaited read =
    filter (λ conn. not (has_given read.stage read.number read.entries conn)) read.members

-- a stage begins
abbrev pub with_stage : Stage → Reading → Reading
with_stage stage read =
    record read { stage = stage; entries = []; place = fresh_in stage read.place }

-- what follows a stage that has passed; behind CLEANUP and STOPPING the rebuild has ended
abbrev pub read_behind : Stage → Reading → Option Reading
read_behind Quiesce read = Some (with_stage Connect read)
read_behind Connect read = Some (with_stage Copy read)
read_behind Copy read = Some (with_stage Cleanup read)
read_behind Cleanup read = None
read_behind Stopping read = None

-- with these members left, and those awaited: a stage passes where a member is left and none is
-- awaited, and the rebuild has ended where none is left
abbrev pub read_past : (members awaited : List ConnId) → Reading → Option Reading
read_past [] awaited read = None
read_past (member ∷ members) [] read = read_behind read.stage read
read_past (member ∷ members) (conn ∷ awaited) read = Some read

abbrev pub passed : Reading → Option Reading
passed read = read_past read.members (awaited read) read

-- ---- one entry more

-- an entry of the stage; in COPY a departure or the forcing of a connection leaves none
abbrev pub with_entry : ConnId → Telling → Reading → Reading
with_entry by telling read =
    record read {
      entries = if is_emptying telling && is_copy read.stage then []
          else record { by = by; telling = telling } ∷ read.entries;
    }

-- who departs is no member any more, and the first place told is the new instance's
abbrev pub with_told : ConnId → Telling → Reading → Reading
with_told by Departs read =
    with_entry by Departs (record read { members = without_member by read.members })
with_told by (Places cf) read =
    with_entry by (Places cf) (record read { place = Some (unwrap_or read.place cf) })
with_told by telling read = with_entry by telling read

-- a stop begins STOPPING, a failure ends the rebuild, and with any other entry the stage may pass
abbrev pub read_by : ConnId → Telling → Reading → Option Reading
read_by by Stops read = Some (with_stage Stopping read)
read_by by Fails read = None
read_by by telling read = passed (with_told by telling read)

-- a rebuild begins in QUIESCE, and its members are those active then
abbrev pub begun : ℕ → Caps → List ConnId → Reading
begun number caps actives =
    record {
      number = number;
      caps = caps;
      members = actives;
      stage = Quiesce;
      entries = [];
      place = None;
    }

abbrev pub read_next : List ConnId → ConnId → Telling → Option Reading → Option Reading
read_next actives by (Starts number caps) read = Some (begun number caps actives)
read_next actives by telling None = None
read_next actives by telling (Some read) = read_by by telling read

-- ---- a whole history

-- the rebuild as it is kept
abbrev pub rebuild_of : Reading → Rebuild
rebuild_of read =
    record {
      number = read.number;
      stage = read.stage;
      members = read.members;
      owing = awaited read;
      caps = read.caps;
      fresh = read.place;
    }

-- given who is active behind the first entries of a history
module _ {C R : Type 0} (actives_after : List (Entry C R) → List ConnId) where
  -- what is read of the entries behind those before, from what was read of these
  abbrev pub read_from : (before entries : List (Entry C R)) → Option Reading → Option Reading
  read_from before [] read = read
  read_from before (entry ∷ entries) read =
      read_from (before ++ entry ∷ []) entries
      (read_next (actives_after before) entry.by (telling_entry entry).telling read)

  abbrev pub rebuild_told : List (Entry C R) → Option Rebuild
  rebuild_told history = option_map rebuild_of (read_from [] history None)
