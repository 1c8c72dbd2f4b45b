-- What entries of a history tell of a rebuild, and of the end of a structure.
use Rattle.std.specs.Prelude.{ℕ, Bool, true, false}
use Rattle.cf_types.specs.declared.events.Event.{Event}
use Rattle.cf_types.specs.declared.events.Stage.{Stage}
use Rattle.cf_types.specs.declared.events.Stage.TheVariants.{Connect, Copy}
use Rattle.cf_types.specs.declared.forms.Caps.{Caps}
use Rattle.cf_types.specs.declared.numbers.CfId.{CfId}
use Rattle.cf_types.specs.declared.numbers.ConnId.{ConnId}
use Rattle.cf_types.specs.declared.shell_commands.ShellCmd.{ShellCmd}
use Rattle.cf_types.specs.declared.shell_commands.ShellCmd.TheVariants as cmd
use Rattle.cf_types.specs.declared.shell_commands.ShellReply.{ShellReply}
use Rattle.cf_types.specs.declared.shell_commands.ShellReply.TheVariants as shown
use Rattle.engine_api.specs.declared.asks.Ask.TheVariants as ask
use Rattle.engine_api.specs.declared.asks.Reply.{Reply}
use Rattle.engine_api.specs.declared.asks.Reply.TheVariants as reply
use Rattle.engine_api.specs.declared.asks.What.{What}
use Rattle.engine_api.specs.declared.asks.What.TheVariants as what
use Rattle.engine_api.specs.declared.histories.Entry.{Entry}
use Rattle.engine_api.specs.RebuildCore.Stages.{is_response}

-- what an accepted command tells: that a rebuild starts, with its number and capacity; where the new instance is; that
-- so many items are copied; that a caller completed its part, or responded to an event; that the rebuild is stopped, the
-- caller departs, a failed connection is forced away, the structure is forced away, or it fails
pub data Telling : Type 0 where
  Starts : ℕ → Caps → Telling
  Places : CfId → Telling
  Copies : ℕ → Telling
  Completes : Telling
  Responds : Event → Telling
  Stops : Telling
  Departs : Telling
  Forces : Telling
  Deallocates : Telling
  Fails : Telling
  Nothing : Telling

-- what stood in a facility is lost: the new instance, so that the rebuild is stopped, or the structure's last one
abbrev pub mark_telling : ShellReply → Telling
mark_telling (shown.Stopped number) = Stops
mark_telling shown.FailedNow = Fails
mark_telling _ = Nothing

abbrev pub telling : ShellCmd → ShellReply → Telling
telling (cmd.RebuildStart caps) (shown.OkNumber number) = Starts number caps
telling cmd.RebuildConnect (shown.OkAt cf) = Places cf
telling (cmd.Copy n) (shown.Copied moved left) = Copies moved
telling cmd.RebuildComplete shown.Ok = Completes
telling cmd.Respond (shown.Responded event) = Responds event
telling cmd.RebuildStop shown.Ok = Stops
telling cmd.Disconnect shown.Ok = Departs
telling cmd.Fail shown.Ok = Departs
telling (cmd.ForceConn conn) shown.Ok = Forces
telling cmd.ForceStr shown.Ok = Deallocates
telling (cmd.Vary cf off) answer = mark_telling answer
telling _ _ = Nothing

-- an entry as far as it tells of a rebuild
pub record TellingEntry : Type 0 where
  pub by : ConnId
  pub telling : Telling

module _ {C R : Type 0} where
  abbrev pub telling_of : What C → Reply R → Telling
  telling_of (what.Call (ask.Shell command)) (reply.Shell answer) = telling command answer
  telling_of (what.Lost cf) (reply.Shell answer) = mark_telling answer
  telling_of _ _ = Nothing

  abbrev pub telling_entry : Entry C R → TellingEntry
  telling_entry entry = record { by = entry.by; telling = telling_of entry.what entry.reply }

-- ---- tests

-- a departure or the forcing of a connection empties a new instance that is being filled
abbrev pub is_emptying : Telling → Bool
is_emptying Departs = true
is_emptying Forces = true
is_emptying _ = false

-- it is what a stage of the rebuild with this number waits for
abbrev pub is_awaited : Stage → ℕ → Telling → Bool
is_awaited stage number (Responds event) = is_response stage number event
is_awaited Connect number (Places cf) = true
is_awaited Copy number Completes = true
is_awaited _ _ _ = false
