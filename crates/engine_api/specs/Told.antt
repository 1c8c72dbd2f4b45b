-- What a caller is told of a call.
use Rattle.std.specs.Prelude.{ℕ, Bool, true, false, Option, None, Some}
use Rattle.cf_types.specs.declared.refusals.Refusal.{Refusal}
use Rattle.cf_types.specs.declared.refusals.Refusal.TheVariants.{Quiesced, WrongStage}
use Rattle.cf_types.specs.declared.shell_commands.ShellCmd.{ShellCmd}
use Rattle.cf_types.specs.declared.shell_commands.ShellCmd.TheVariants as cmd
use Rattle.cf_types.specs.declared.shell_commands.ShellReply.{ShellReply}
use Rattle.cf_types.specs.declared.shell_commands.ShellReply.TheVariants as answer
use Rattle.cf_types.specs.Mailboxes.{owes_response}
use Rattle.engine_api.specs.declared.asks.Ask.{Ask}
use Rattle.engine_api.specs.declared.asks.Ask.TheVariants as ask
use Rattle.engine_api.specs.declared.asks.Reply.{Reply}
use Rattle.engine_api.specs.declared.asks.Reply.TheVariants as reply
use Rattle.engine_api.specs.declared.told.Told.{Told}

-- a refusal that passes with the stages of a rebuild, so that the call may be asked again
abbrev pub is_passing : Refusal → Bool
is_passing (Quiesced number) = true
is_passing (WrongStage stage) = true
is_passing _ = false

abbrev pub is_event : ShellReply → Bool
is_event (answer.Event event) = true
is_event _ = false

-- an event that is to be answered
abbrev pub is_owing : ShellReply → Bool
is_owing (answer.Event event) = owes_response event
is_owing _ = false

-- a common command that was answered so makes its caller active, or not active
abbrev pub link_of : ShellCmd → ShellReply → Option Bool
link_of (cmd.Connect keep) (answer.OkNew cf) = Some true
link_of (cmd.Connect keep) (answer.Reconnected cf) = Some true
link_of cmd.Disconnect answer.Ok = Some false
link_of cmd.Fail answer.Ok = Some false
link_of _ _ = None

abbrev pub link_of_ask : {C : Type 0} → Ask C → ShellReply → Option Bool
link_of_ask (ask.Shell command) answered = link_of command answered
link_of_ask (ask.Content command) answered = None

-- of a call that is no event and changes no connection
abbrev pub told_plainly : ℕ → Bool → Told
told_plainly number again = record { no = number; again = again; event = false; owes = false; linked = None }

abbrev pub told_of : {C R : Type 0} → ℕ → Ask C → Reply R → Told
told_of number asked (reply.Shell answered) =
    record {
      no = number;
      again = false;
      event = is_event answered;
      owes = is_owing answered;
      linked = link_of_ask asked answered;
    }
told_of number asked (reply.Content answered) = told_plainly number false
told_of number asked (reply.Refused refusal) = told_plainly number (is_passing refusal)
