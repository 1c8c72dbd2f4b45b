-- What calls do to the connections: who is active after each, and that refused calls change nothing.
use Rattle.engine_api.proofs.Imports.{arith, ◌≡◌, Bool, List, [], ◌∷◌, length, Option, Some, None, refl, ap, ◌∙◌, fold, length-set, length-map, CALLERS, Event, StrForm, CfId, ConnId, Refusal, ShellCmd, Connections, no_connections, with_departure, Ask, Entry, machine_after, replay, next_entry, with_call, next_reply, Machine, opening, unless, content_done, room_of, command_done, step, entered_machine, Meaning, Shell, shell_cause, response_outcome, loss_outcome, Reply}
use Rattle.engine_api.proofs.HistoryLaws.{replay-push}

-- ---- the connections that commands leave

length-with_departure : (conn : ConnId) (keep : Bool) (conns : Connections)
    → length (with_departure conn keep conns) ≡ length conns
length-with_departure conn keep conns = grind (arith, length-set, length-map)

-- no connection changes where an instance is lost
pub conns-loss : (form : StrForm) (cf : CfId) (shell : Shell) → (loss_outcome form cf shell).shell.conns ≡ shell.conns
conns-loss form cf shell = grind arith

length-respond : (shell : Shell) (by : ConnId) (answered : Option Event)
    → length (response_outcome shell by answered).shell.conns ≡ length shell.conns
length-respond shell by answered = grind (arith, length-set)

length-unconnected : length no_connections ≡ CALLERS
unfolding no_connections
length-unconnected = refl

-- ---- the steps of the machine, and histories

module _ {C R I S : Type 0} (meaning : Meaning C R I S) (form : StrForm) where
  -- a command on the content changes no connection, and its answer tells of none
  conns-content : (machine : Machine S) (by : ConnId) (command : C) (cause : Option Refusal) → (unless meaning
      form cause machine (content_done meaning form machine by command)).machine.shell.conns ≡ machine.shell.conns
  conns-content machine by command cause = grind arith

  pub length-conns-step : (machine : Machine S) (by : ConnId) (asked : Ask C)
      → length (step meaning form machine by asked).machine.shell.conns ≡ length machine.shell.conns
  length-conns-step machine by (Ask.Shell command) = grind (arith, go)
    where
      go : (cause : Option Refusal)
          → let answered = unless meaning form cause machine (command_done meaning form machine by command) in
          length answered.machine.shell.conns ≡ length machine.shell.conns
      go (Some refusal) = refl
      go None = grind (arith, length-set, length-with_departure, length-respond, conns-loss)
  length-conns-step machine by (Ask.Content command) = grind (arith, conns-content)

  length-conns-fold : (machine : Machine S) (history : List (Entry C R))
      → length (fold (machine_after meaning form) machine history).shell.conns ≡ length machine.shell.conns
  length-conns-fold machine [] = refl
  length-conns-fold machine (entry ∷ entries) =
      grind (arith, length-conns-step, conns-loss, length-conns-fold (machine_after meaning form machine entry) entries)

  -- there is a place for the operator and one for each connector
  pub length-conns-replay : (history : List (Entry C R)) → length (replay meaning form history).shell.conns ≡ CALLERS
  length-conns-replay history = length-conns-fold (opening meaning form) history ∙ length-unconnected

  -- ---- refused calls

  refused_done : (machine : Machine S) (by : ConnId) (command : ShellCmd) (cause : Option Refusal) (refusal : Refusal)
      → (unless meaning form cause machine (command_done meaning form machine by command)).reply ≡ Reply.Refused
      refusal → (unless meaning form cause machine (command_done meaning form machine by command)).machine ≡ machine
  refused_done machine by command cause refusal is = grind arith

  refused_content : (machine : Machine S) (by : ConnId) (command : C) (cause : Option Refusal) (refusal : Refusal)
      → (unless meaning form cause machine (content_done meaning form machine by command)).reply ≡ Reply.Refused
      refusal → (unless meaning form cause machine (content_done meaning form machine by command)).machine ≡ machine
  refused_content machine by command cause refusal is = grind arith

  -- a refused call changes nothing, but that a call has come
  pub machine-refused : (machine : Machine S) (by : ConnId) (asked : Ask C) (refusal : Refusal)
      → (step meaning form machine by asked).reply ≡ Reply.Refused refusal
      → (step meaning form machine by asked).machine ≡ entered_machine machine
  machine-refused machine by (Ask.Shell command) refusal is = ap (entered_machine) (refused_done
      machine by command (shell_cause form (room_of meaning form machine) machine.shell by command) refusal is)
  machine-refused machine by (Ask.Content command) refusal is = grind (arith, refused_content)

  pub replay-refused : (history : List (Entry C R)) (by : ConnId) (asked : Ask C) (refusal : Refusal)
      → next_reply meaning form history by asked ≡ Reply.Refused refusal
      → replay meaning form (with_call meaning form history by asked) ≡ entered_machine (replay meaning form history)
  replay-refused history by asked refusal is = replay-push meaning form history
      (next_entry meaning form history by asked) ∙ machine-refused (replay meaning form history) by asked refusal is
