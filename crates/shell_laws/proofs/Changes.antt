-- What one entry does to a content, whatever its commands mean: a command is done; or, in an entry that does none, the
-- content is left as it was, but for one connector that departs or comes back, ends its registrations, or is cleared,
-- where no instance stands before it or after it.
use Rattle.shell_laws.proofs.Imports.{arith, ◌≡◌, Bool, true, false, cond, [], Option, None, Some, is_some, refl, ap, false≢true, StrForm, CfId, ConnId, Refusal, ShellCmd, state_of, What, after_what, Machine, command_done, content_after, content_reply, departure_from, entered_machine, loss_step, room_of, step, unless, with_back_of, with_made, Meaning, unless_refused, shape_of, Leaver, Shell, content_cause, leaver, made_at, shell_cause, with_posted, Ask, stands_in}
use Rattle.shell_laws.proofs.Moves.Move.{Same, Left, Returned, Forgotten, Cleared}
use Rattle.shell_laws.proofs.ShellMoves.Move.{Connects, Departs, Forces, Deallocates, Gives, Places, Fails}
use Rattle.shell_laws.proofs.ShellMoves.{IsKnown, Move as ShellMove, Work, deeds_of, leaver_of, moved, standing_of}
use Rattle.shell_laws.proofs.{Answered.reply_for, LossLaws.loss-cases, MoveLaws.made_under, Moves.Move, Moves.Change}
use Rattle.shell_laws.proofs.{Moves.Change.Done, Moves.Change.Quiet, StepLaws.is_connection, StepLaws.move_by}

module _ {C R I S : Type 0} (meaning : Meaning C R I S) (form : StrForm)
    (unregistered : meaning.forget (meaning.empty (shape_of form)) ≡ meaning.empty (shape_of form)) where
  -- ---- a move of another command than CONNECT

  module _ (machine after : Machine S) (by : ConnId) (command : ShellCmd) where
    abbrev Moves : Type 0
    Moves = Move meaning form machine after by (What.Call (Ask.Shell command))

    -- who departs leaves the content
    left_by : (who : Leaver) → leaver machine.shell by command ≡ Some who
        → after.content ≡ (departure_from meaning form (Some who) machine).state → Moves
    left_by who leaves e = go (stands_in machine) e
      where
        go : (b : Bool) → after.content ≡ (cond b (meaning.leave (shape_of form) machine.content who.conn who.keep)
            (record { state = machine.content; letters = [] })).state → Moves
        go true e = Left who command refl leaves e
        go false e = Same e

    cleared : after.content ≡ meaning.empty (shape_of form) → stands_in after ≡ false → Moves
    cleared e none = grind (arith, Cleared, stands_in)

    by_move : (move : ShellMove) → IsKnown false move (standing_of machine.shell) → leaver machine.shell
        by command ≡ leaver_of move → after.content ≡ content_after meaning form (is_some machine.shell.rebuild)
        (deeds_of move (standing_of machine.shell)) (departure_from meaning form (leaver_of move) machine).state
        → stands_in after ≡ is_some (moved form move (standing_of machine.shell)).instances.primary → Moves
    by_move (Connects active made back) known leaves e stands = absurd (false≢true known)
    by_move (Departs who true) known leaves e stands = cleared e stands
    by_move (Departs who false) known leaves e stands = left_by who leaves e
    by_move (Forces other true) known leaves e stands = cleared e stands
    by_move (Forces other false) known leaves e stands = left_by (record { conn = other; keep = false }) leaves e
    by_move Deallocates known leaves e stands = cleared e stands
    by_move (Gives rebuild who) known leaves e stands = grind arith
    by_move (Places rebuild who at made) known leaves e stands = grind (arith, made_under)
    by_move Fails known leaves e stands = cleared e stands
    by_move _ known leaves e stands = Same e

  other_change : (machine : Machine S) (by : ConnId) (command : ShellCmd) → is_connection command ≡ false
      → shell_cause form (room_of meaning form machine) machine.shell by command ≡ None → Move
      meaning form machine (command_done meaning form machine by command).machine by (What.Call (Ask.Shell command))
  other_change machine by command other fine =
      let is = move_by meaning form machine by command fine in
      let known : IsKnown false is.move (standing_of machine.shell) = rw other at (is.known) in
      by_move machine (command_done meaning form machine by command).machine
      by command is.move known (ap (λ (w : Work). w.2) is.does) (grind (arith, Work)) (grind (arith, Work))

  -- CONNECT brings a connector back, or makes the first instance
  connected : (before after : Machine S) (by : ConnId) (keep : Bool) (failed rebuilding : Bool) (make : Option CfId)
      → after.content ≡ with_made meaning form rebuilding make
      (with_back_of meaning form (cond failed (Some by) None) before.content) → (is_some make ≡ true
      → stands_in before ≡ false) → Move meaning form before after by (What.Call (Ask.Shell (ShellCmd.Connect keep)))
  connected before after by keep false rebuilding None e makes = Same e
  connected before after by keep true rebuilding None e makes = Returned keep refl e
  connected before after by keep false true (Some cf) e makes = Same e
  connected before after by keep true true (Some cf) e makes = Returned keep refl e
  connected before after by keep failed false (Some cf) e makes = grind (arith, Cleared, stands_in)

  command_change : (machine : Machine S) (by : ConnId) (command : ShellCmd)
      → shell_cause form (room_of meaning form machine) machine.shell by command ≡ None → Move
      meaning form machine (command_done meaning form machine by command).machine by (What.Call (Ask.Shell command))
  command_change machine by (ShellCmd.Connect keep) fine =
      let shell : Shell = with_posted [] machine.shell in
      connected machine _ by keep (is_some (state_of shell.conns by))
      (is_some machine.shell.rebuild) (made_at form shell by) refl (grind arith)
  command_change machine by command fine = other_change machine by command refl fine

  -- that a call has come makes no difference to the content
  move_entered : (before after : Machine S) (by : ConnId) (told : What C) → Move meaning form before after by told
      → Move meaning form before (entered_machine after) by told
  move_entered before after by told (Same e) = Same e
  move_entered before after by told (Left who command is leaves e) = Left who command is leaves e
  move_entered before after by told (Returned keep is e) = Returned keep is e
  move_entered before after by told (Forgotten e) = Forgotten e
  move_entered before after by told (Cleared e gone) = Cleared e gone

  -- ---- marks

  pub loss_change : (machine : Machine S) (by : ConnId) (cf : CfId)
      → Move meaning form machine (loss_step meaning form machine cf).machine by (What.Lost cf)
  loss_change machine by cf = grind (arith, loss-cases, Move, Same, Cleared, stands_in)

  -- ---- calls

  pub shell_change : (machine : Machine S) (by : ConnId) (command : ShellCmd) → Move meaning
      form machine (step meaning form machine by (Ask.Shell command)).machine by (What.Call (Ask.Shell command))
  shell_change machine by command =
      move_entered machine _ by _ (go (shell_cause form (room_of meaning form machine) machine.shell by command) refl)
    where
      go : (cause : Option Refusal) → shell_cause form (room_of meaning form machine) machine.shell by command ≡ cause
          → Move meaning form machine (unless meaning form cause
          machine (command_done meaning form machine by command)).machine by (What.Call (Ask.Shell command))
      go (Some refusal) is = Same refl
      go None is = command_change machine by command is

  content_change : (machine : Machine S) (by : ConnId) (command : C)
      → let stepped = step meaning form machine by (Ask.Content command) in
      Change meaning form machine stepped.machine by (What.Call (Ask.Content command)) stepped.reply
  content_change machine by command = go (content_cause machine.shell by)
      (meaning.cause (shape_of form) machine.shell.caps machine.content by command) refl
    where
      go : (cause refused : Option Refusal) → meaning.cause (shape_of form) machine.shell.caps
          machine.content by command ≡ refused → let stepped = unless_refused refused machine.content
          (meaning.done (shape_of form) machine.shell.caps machine.content by command) in
          let done = unless meaning form cause machine (record {
            reply = content_reply stepped.reply;
            machine = record machine { shell = with_posted stepped.letters machine.shell; content = stepped.state };
          }) in
          Change meaning form machine (entered_machine done.machine) by (What.Call (Ask.Content command)) done.reply
      go (Some refusal) refused is = Quiet refl (Same refl)
      go None (Some refusal) is = Quiet refl (Same refl)
      go None None is = Done command refl is refl

  pub changed : (machine : Machine S) (by : ConnId) (told : What C) → Change meaning form
      machine (after_what meaning form machine by told) by told (reply_for meaning form machine by told)
  changed machine by (What.Call (Ask.Shell command)) = Quiet refl (shell_change machine by command)
  changed machine by (What.Call (Ask.Content command)) = content_change machine by command
  changed machine by (What.Lost cf) = Quiet refl (loss_change machine by cf)
