-- The history of a list structure: what it leads to, and which of its entries are accepted commands on the content.
use Rattle.std.specs.Prelude.{List, Option, None, Some, option_and_then, map}
use Rattle.cf_types.specs.declared.forms.StrForm.{StrForm}
use Rattle.cf_types.specs.declared.list_commands.ListCmd.{ListCmd}
use Rattle.cf_types.specs.declared.list_commands.ListReply.{ListReply}
use Rattle.cf_types.specs.declared.list_commands.QueueCmd.{QueueCmd}
use Rattle.cf_types.specs.declared.list_commands.QueueCmd.TheVariants as queue
use Rattle.cf_types.specs.declared.list_commands.QueueReply.{QueueReply}
use Rattle.cf_types.specs.declared.list_commands.QueueReply.TheVariants as says
use Rattle.engine_api.specs.declared.histories.Entry.{Entry}
use Rattle.engine_api.specs.History.{IsLegal, replay}
use Rattle.list_model.specs.Contents.{Content}
use Rattle.queue_model.specs.ListQueues.{queued_lists}
use Rattle.queue_model.specs.Meaning.{QueueState}
use Rattle.shell_laws.specs.Accepted.{Accepted as AcceptedOf, accepted_as}

abbrev pub ListEntry : Type 0
ListEntry = Entry QueueCmd QueueReply

abbrev pub ListHistory : Type 0
ListHistory = List ListEntry

-- ---- the lists in a structure, beside which queues of events stand

-- the lists in a structure's content
abbrev pub list_in : QueueState Content → Content
list_in content = content.inner

abbrev pub told_inside : QueueCmd → QueueReply → Option (AcceptedOf ListCmd ListReply)
told_inside (queue.List command) (says.List answer) = Some (record { command = command; answer = answer })
told_inside command answer = None

-- the command on records in an accepted one of the structure, unless that is one on queues
abbrev pub list_told : AcceptedOf QueueCmd QueueReply → Option (AcceptedOf ListCmd ListReply)
list_told told = told_inside told.command told.answer

-- ---- what a history leads to

abbrev pub IsLegalList : StrForm → ListHistory → Type 0
IsLegalList form history = IsLegal queued_lists form history

-- the records, limits, locks and monitors after a history
abbrev pub content_after : StrForm → ListHistory → Content
content_after form history = list_in (replay queued_lists form history).content

abbrev pub Accepted : Type 0
Accepted = AcceptedOf ListCmd ListReply

-- of one thing that was done, the accepted command on the content and its answer, if it was one
abbrev pub Told : Type 0
Told = Option Accepted

abbrev pub told_by : ListEntry → Told
told_by entry = option_and_then list_told (accepted_as entry.what entry.reply)

-- what the entries tell, one after another
abbrev pub told_in : ListHistory → List Told
told_in history = map told_by history
