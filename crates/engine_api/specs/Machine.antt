-- The one-thread machine of a structure: what each call answers, and what it leaves.
use Rattle.std.specs.Prelude.{ℕ, ◌+◌, ◌-◌, Bool, true, false, ◌||◌, if◌then◌else◌, List, [], length, min, Option, None, Some, is_some, Result, Ok, Err}
use Rattle.cf_types.specs.declared.forms.StrForm.{StrForm}
use Rattle.cf_types.specs.declared.numbers.CfId.{CfId}
use Rattle.cf_types.specs.declared.numbers.ConnId.{ConnId}
use Rattle.cf_types.specs.declared.refusals.Refusal.{Refusal}
use Rattle.cf_types.specs.declared.shell_commands.ShellCmd.{ShellCmd}
use Rattle.cf_types.specs.declared.shell_commands.ShellCmd.TheVariants as cmd
use Rattle.engine_api.specs.declared.asks.Ask.{Ask}
use Rattle.engine_api.specs.declared.asks.Ask.TheVariants as ask
use Rattle.engine_api.specs.declared.asks.Reply.{Reply}
use Rattle.engine_api.specs.declared.asks.Reply.TheVariants as reply
use Rattle.engine_api.specs.declared.deeds.Deeds.{Deeds}
use Rattle.engine_api.specs.declared.deeds.Room.{Room}
use Rattle.engine_api.specs.Meaning.{Meaning, Held, Departure, step_result}
use Rattle.engine_api.specs.Shapes.{shape_of}
use Rattle.engine_api.specs.Rebuilds.{fresh_of}
use Rattle.engine_api.specs.Shell.{Shell, Leaver, opening_shell, call_cause, shell_done, mark_outcome, entered, leaver, with_posted}

-- the part that is the same for every kind, the content, and how many of its items stand in the new instance. Where no
-- instance stands there is nothing in the content
pub record Machine (S : Type 0) : Type 0 where
  pub shell : Shell
  pub content : S
  pub copied : ℕ

-- what a call answers, and the machine that it leaves
pub record CallOutcome (R S : Type 0) : Type 0 where
  pub reply : Reply R
  pub machine : Machine S

-- a refused call changes nothing
abbrev pub refusal_outcome : {R S : Type 0} → Machine S → Refusal → CallOutcome R S
refusal_outcome machine refusal = record { reply = reply.Refused refusal; machine = machine }

-- a call has come
abbrev pub entered_machine : {S : Type 0} → Machine S → Machine S
entered_machine machine = record machine { shell = entered machine.shell }

abbrev pub with_entered : {R S : Type 0} → CallOutcome R S → CallOutcome R S
with_entered outcome = record outcome { machine = entered_machine outcome.machine }

abbrev pub content_reply : {R : Type 0} → Result R Refusal → Reply R
content_reply (Ok answer) = reply.Content answer
content_reply (Err refusal) = reply.Refused refusal

-- the new instance is emptied, takes the old one's place, or is dropped
abbrev pub copied_after : Deeds → ℕ → ℕ
copied_after deeds copied =
    if deeds.restart || (deeds.switch || (deeds.drop_fresh || deeds.drop_all)) then 0 else copied

-- how many items a command moves
abbrev pub moved_by : Room → ShellCmd → ℕ
moved_by room (cmd.Copy n) = min n room.left
moved_by room _ = 0

module _ {C R I S : Type 0} (meaning : Meaning C R I S) (form : StrForm) where
  abbrev pub opening : Machine S
  opening = record { shell = opening_shell form; content = meaning.empty (shape_of form); copied = 0 }

  abbrev pub items_of : Machine S → List I
  items_of machine = meaning.items (shape_of form) machine.content

  -- the need of what there is, and how many items the new instance lacks, where one stands
  abbrev pub room_of : Machine S → Room
  room_of machine =
      record {
        need = if is_some machine.shell.instances.primary then meaning.need (items_of machine)
            else record { entries = 0; elements = 0 };
        left = if is_some (fresh_of machine.shell.rebuild) then length (items_of machine) - machine.copied else 0;
      }

  -- the primary: its content and its capacity
  abbrev pub capacity : Machine S → Held S
  capacity machine =
      record {
        shape = shape_of form;
        base = machine.shell.caps;
        caps = machine.shell.caps;
        state = machine.content;
      }

  -- a command on the content is done by the engine, and its letters are posted
  abbrev pub content_done : Machine S → ConnId → C → CallOutcome R S
  content_done machine by command =
      let step = step_result meaning (capacity machine) by command in
      record {
        reply = content_reply step.reply;
        machine = record machine { shell = with_posted step.letters machine.shell; content = step.state };
      }

  -- who departs leaves the content first, where an instance stands
  abbrev pub departure_from : Option Leaver → Machine S → Departure S
  departure_from None machine = record { state = machine.content; letters = [] }
  departure_from (Some leaver) machine =
      if is_some machine.shell.instances.primary
      then meaning.leave (shape_of form) machine.content leaver.conn leaver.keep
      else record { state = machine.content; letters = [] }

  -- ---- deeds, in their order

  abbrev pub with_back_of : Option ConnId → S → S
  with_back_of None content = content
  with_back_of (Some conn) content = meaning.back content conn

  -- an instance that is made is empty: a rebuild's new one, or else the primary
  abbrev pub with_made : Bool → Option CfId → S → S
  with_made rebuilding None content = content
  with_made true (Some cf) content = content
  with_made false (Some cf) content = meaning.empty (shape_of form)

  abbrev pub content_after : (rebuilding : Bool) → Deeds → S → S
  content_after rebuilding deeds content =
      let made = with_made rebuilding deeds.make (with_back_of deeds.back content) in
      if deeds.drop_all then meaning.empty (shape_of form)
      else if deeds.switch then meaning.forget made
      else made

  -- a common command: the departure from the content, its letters, the command itself, and its deeds
  abbrev pub command_done : Machine S → ConnId → ShellCmd → CallOutcome R S
  command_done machine by command =
      let gone = departure_from (leaver machine.shell by command) machine in
      let acted = shell_done form (room_of machine) (with_posted gone.letters machine.shell) by command in
      record {
        reply = reply.Shell acted.reply;
        machine = record {
          shell = acted.shell;
          content = content_after (is_some machine.shell.rebuild) acted.deeds gone.state;
          copied = copied_after acted.deeds (machine.copied + moved_by (room_of machine) command);
        };
      }

  abbrev pub unless : Option Refusal → Machine S → CallOutcome R S → CallOutcome R S
  unless None machine done = done
  unless (Some refusal) machine done = refusal_outcome machine refusal

  -- what a call does that the shell doesn't refuse
  abbrev pub call_done : Machine S → ConnId → Ask C → CallOutcome R S
  call_done machine by (ask.Shell command) = command_done machine by command
  call_done machine by (ask.Content command) = content_done machine by command

  -- the step of a call
  abbrev pub step : Machine S → ConnId → Ask C → CallOutcome R S
  step machine by asked =
      with_entered
      (unless (call_cause form (room_of machine) machine.shell by asked) machine (call_done machine by asked))

  -- the step of a mark: what stands in the facility is lost
  abbrev pub loss_step : Machine S → CfId → CallOutcome R S
  loss_step machine cf =
      let acted = mark_outcome form cf machine.shell in
      record {
        reply = reply.Shell acted.reply;
        machine = record {
          shell = acted.shell;
          content = content_after (is_some machine.shell.rebuild) acted.deeds machine.content;
          copied = copied_after acted.deeds machine.copied;
        };
      }
