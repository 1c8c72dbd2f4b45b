-- Sublists whose events are delivered anew: what came between two DEQs of one connector that answer the same sublist.
use Rattle.std.specs.Prelude.{◌≡◌, Bool, true, false, ◌&&◌, ◌⊎◌, is_some, List, [], ◌∷◌, ◌++◌, Some}
use Rattle.cf_types.specs.declared.forms.StrForm.{StrForm}
use Rattle.cf_types.specs.declared.list_commands.ListCmd.{ListCmd}
use Rattle.cf_types.specs.declared.list_commands.ListReply.{ListReply}
use Rattle.cf_types.specs.declared.numbers.ConnId.{ConnId}
use Rattle.cf_types.specs.declared.refusals.Refusal.{Refusal}
use Rattle.cf_types.specs.declared.shell_commands.ShellCmd.TheVariants as shell
use Rattle.engine_api.specs.declared.asks.Ask.TheVariants as ask
use Rattle.engine_api.specs.declared.asks.Reply.TheVariants as reply
use Rattle.engine_api.specs.declared.asks.What.{What}
use Rattle.engine_api.specs.declared.asks.What.TheVariants as what
use Rattle.engine_api.specs.declared.histories.Entry.{Entry}
use Rattle.engine_api.specs.History.{replay}
use Rattle.engine_api.specs.Machine.{Machine}
use Rattle.engine_api.specs.Meaning.{Meaning}
use Rattle.shell_laws.specs.Accepted.{accepted_as}
use Rattle.cf_types.specs.declared.list_commands.QueueCmd.{QueueCmd}
use Rattle.cf_types.specs.declared.list_commands.QueueCmd.TheVariants as queue
use Rattle.cf_types.specs.declared.list_commands.QueueReply.{QueueReply}
use Rattle.cf_types.specs.declared.list_commands.QueueReply.TheVariants as says
use Rattle.queue_model.specs.declared.subs.Sub.{Sub}
use Rattle.queue_model.specs.Queues.{Filled, is_filled}
use Rattle.queue_model.specs.Meaning.{QueueState, queue_meaning}

abbrev pub QueueEntry : Type 0
QueueEntry = Entry QueueCmd QueueReply

-- the entry tells that a connector's command was accepted, and its answer
pub record IsDone (conn : ConnId) (cmd : QueueCmd) (told : QueueReply) (entry : QueueEntry) : Type 0 where
  pub by : entry.by ≡ conn
  pub accepted : accepted_as entry.what entry.reply ≡ Some (record { command = cmd; answer = told })

-- a DEQ that answered the sublist; a MONSUB of it; an UNMONSUB of it
abbrev pub Takes : QueueEntry → Sub → Type 0
Takes entry sub = IsDone sub.conn queue.Deq (says.Sublist sub.header sub.key) entry

abbrev pub Monitors : QueueEntry → Sub → Type 0
Monitors entry sub = (told : QueueReply) × IsDone sub.conn (queue.MonSub sub.header sub.key) told entry

abbrev pub Unmonitors : QueueEntry → Sub → Type 0
Unmonitors entry sub = (told : QueueReply) × IsDone sub.conn (queue.UnmonSub sub.header sub.key) told entry

-- a call by which a connector departs
abbrev pub departs : What QueueCmd → Bool
departs (what.Call (ask.Shell shell.Disconnect)) = true
departs (what.Call (ask.Shell shell.Fail)) = true
departs _ = false

-- the connector departs: by a call that isn't refused
pub record Leaves (entry : QueueEntry) (conn : ConnId) : Type 0 where
  pub by : entry.by ≡ conn
  pub asked : departs entry.what ≡ true
  pub accepted : (refusal : Refusal) → entry.reply ≡ reply.Refused refusal → ⊥

module _ {I S : Type 0} (filled : S → Filled) (inner : Meaning ListCmd ListReply I S) (form : StrForm) where
  abbrev pub machine_at : List QueueEntry → Machine (QueueState S)
  machine_at history = replay (queue_meaning filled inner) form history

  -- the sublist has records after these entries
  abbrev pub is_there : List QueueEntry → Sub → Bool
  is_there history sub = is_filled (filled (machine_at history).content.inner) sub

  -- an instance stands
  abbrev pub is_allocated : List QueueEntry → Bool
  is_allocated history = is_some (machine_at history).shell.instances.primary

  -- the connector gives the sublist up, departs, or no instance stands before the entry or behind it
  pub data GivesUp (history : List QueueEntry) (entry : QueueEntry) (sub : Sub) : Type 0 where
    ByCommand : Unmonitors entry sub → GivesUp history entry sub
    ByDeparture : Leaves entry sub.conn → GivesUp history entry sub
    ByEnd : is_allocated history && is_allocated (history ++ entry ∷ []) ≡ false → GivesUp history entry sub

  -- behind some entries come others: with one by which the connector gives the sublist up
  pub record IsGivenUp (base since : List QueueEntry) (sub : Sub) : Type 0 where
    pub front : List QueueEntry
    pub entry : QueueEntry
    pub rest : List QueueEntry
    pub split : since ≡ front ++ entry ∷ rest
    pub gives : GivesUp (base ++ front) entry sub

  -- with one before which the sublist had no records, and behind which it has some
  pub record IsFilledAnew (base since : List QueueEntry) (sub : Sub) : Type 0 where
    pub front : List QueueEntry
    pub entry : QueueEntry
    pub rest : List QueueEntry
    pub split : since ≡ front ++ entry ∷ rest
    pub none : is_there (base ++ front) sub ≡ false
    pub some : is_there ((base ++ front) ++ entry ∷ []) sub ≡ true

  -- with a MONSUB of it, before which it was given up
  pub record IsMonitoredAnew (base since : List QueueEntry) (sub : Sub) : Type 0 where
    pub front : List QueueEntry
    pub entry : QueueEntry
    pub rest : List QueueEntry
    pub split : since ≡ front ++ entry ∷ rest
    pub monitors : Monitors entry sub
    pub given_up : IsGivenUp base front sub

  abbrev pub IsRenewed : (base since : List QueueEntry) → Sub → Type 0
  IsRenewed base since sub = IsFilledAnew base since sub ⊎ IsMonitoredAnew base since sub
