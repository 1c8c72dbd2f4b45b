-- The commands of a list structure: the first refusal that holds, and what a command does where
-- none holds.
use Rattle.std.specs.Prelude.{List, [], Option}
use Rattle.cf_types.specs.declared.forms.Caps.{Caps}
use Rattle.cf_types.specs.declared.numbers.ConnId.{ConnId}
use Rattle.cf_types.specs.declared.refusals.Refusal.{Refusal}
use Rattle.cf_types.specs.declared.list_commands.ListCmd.{ListCmd}
use Rattle.cf_types.specs.declared.list_commands.ListCmd.TheVariants.{Write, Update, Read, Move, Delete, ReadList, LockSet, LockReset, LockTest, LControls, SetLimit, Monitor, Unmonitor}
use Rattle.cf_types.specs.declared.list_commands.ListReply.{ListReply}
use Rattle.cf_types.specs.declared.list_commands.ListReply.TheVariants as replies
use Rattle.engine_api.specs.declared.shapes.Shape.{Shape}
use Rattle.engine_api.specs.Meaning.{Outcome, first_refusal}
use Rattle.list_model.specs.Contents.{Content}
use Rattle.list_model.specs.Commands.Write as write
use Rattle.list_model.specs.Commands.Update as update
use Rattle.list_model.specs.Commands.Read as read
use Rattle.list_model.specs.Commands.Move as move
use Rattle.list_model.specs.Commands.Delete as delete
use Rattle.list_model.specs.Commands.ReadList as read_list
use Rattle.list_model.specs.Commands.LockSet as lock_set
use Rattle.list_model.specs.Commands.LockReset as lock_reset
use Rattle.list_model.specs.Commands.LockTest as lock_test
use Rattle.list_model.specs.Commands.LControls as l_controls
use Rattle.list_model.specs.Commands.SetLimit as set_limit
use Rattle.list_model.specs.Commands.Monitor as monitor
use Rattle.list_model.specs.Commands.Unmonitor as unmonitor

-- the refusals that are tried, in their order
abbrev pub causes : Shape → Caps → Content → ConnId → ListCmd → List (Option Refusal)
causes shape caps content by (Write header head name key body adj cond) =
    write.causes shape caps content by header name key body cond
causes shape caps content by (Update at body adj version cond) =
    update.causes shape caps content by at body version cond
causes shape caps content by (Read at cond) = read.causes shape content by at cond
causes shape caps content by (Move at header head key version cond) =
    move.causes shape content by at header key version cond
causes shape caps content by (Delete at version cond) =
    delete.causes shape content by at version cond
causes shape caps content by (ReadList header) = read_list.causes shape header
causes shape caps content by (LockSet lock) = lock_set.causes shape content lock
causes shape caps content by (LockReset lock) = lock_reset.causes shape content by lock
causes shape caps content by (LockTest lock) = lock_test.causes shape lock
causes shape caps content by (LControls header) = l_controls.causes shape header
causes shape caps content by (SetLimit header n) = set_limit.causes shape header
causes shape caps content by (Monitor header index) = monitor.causes shape content by header index
causes shape caps content by (Unmonitor header) = unmonitor.causes shape header

-- the first that holds
abbrev pub cause : Shape → Caps → Content → ConnId → ListCmd → Option Refusal
cause shape caps content by cmd = first_refusal (causes shape caps content by cmd)

abbrev pub reply : Content → ConnId → ListCmd → ListReply
reply content by (Write header head name key body adj cond) = write.reply content
reply content by (Update at body adj version cond) = update.reply content at
reply content by (Read at cond) = read.reply content at
reply content by (Move at header head key version cond) = replies.Ok
reply content by (Delete at version cond) = delete.reply content at
reply content by (ReadList header) = read_list.reply content header
reply content by (LockSet lock) = replies.Ok
reply content by (LockReset lock) = replies.Ok
reply content by (LockTest lock) = lock_test.reply content lock
reply content by (LControls header) = l_controls.reply content header
reply content by (SetLimit header n) = replies.Ok
reply content by (Monitor header index) = monitor.reply content header
reply content by (Unmonitor header) = unmonitor.reply content by header

-- the content that a command leaves
abbrev pub after : Content → ConnId → ListCmd → Content
after content by (Write header head name key body adj cond) =
    write.after content header head name key body adj
after content by (Update at body adj version cond) = update.after content at body adj
after content by (Read at cond) = content
after content by (Move at header head key version cond) = move.after content at header head key
after content by (Delete at version cond) = delete.after content at
after content by (ReadList header) = content
after content by (LockSet lock) = lock_set.after content by lock
after content by (LockReset lock) = lock_reset.after content lock
after content by (LockTest lock) = content
after content by (LControls header) = content
after content by (SetLimit header n) = set_limit.after content header n
after content by (Monitor header index) = monitor.after content by header index
after content by (Unmonitor header) = unmonitor.after content by header

-- what a command does where no refusal holds
abbrev pub done : Content → ConnId → ListCmd → Outcome ListReply Content
done content by cmd =
    record { reply = reply content by cmd; state = after content by cmd; letters = [] }
