-- A law of what stands, of the content and of the items copied: what each move and each command on the content keeps,
-- calls and marks keep.
use Rattle.shell_laws.proofs.Imports.{true, with_made, ◌≡◌, ℕ, ◌+◌, Bool, false, length, Option, None, Some, refl, subst, arith, is_some, CALLERS, StrForm, CfId, ConnId, Refusal, Ask, Room, Machine, command_done, content_after, content_done, copied_after, departure_from, loss_step, room_of, step, unless, Meaning, Leaver, ShellOutcome, content_cause, loss_outcome, shell_cause, Telling}
use Rattle.shell_laws.proofs.ShellMoves.{Allows, IsSound, Move, Standing, Work, standing_of, work_by, work_of}
use Rattle.shell_laws.proofs.StepLaws.{IsMove, move_by, moves-loss}

-- a rebuild's new instance leaves the content as it is
pub made_under : {C R I S : Type 0} (meaning : Meaning C R I S) (form : StrForm) (rebuilding : Bool)
    (made : Option CfId) (content : S) → rebuilding ≡ true → with_made meaning form rebuilding made content ≡ content
made_under meaning form rebuilding made content is = grind arith

module _ {C R I S : Type 0} (meaning : Meaning C R I S) (form : StrForm) (P : Standing → S → ℕ → Type 0)
    (machine : Machine S) where
  abbrev room : Room
  room = room_of meaning form machine

  abbrev s : Standing
  s = standing_of machine.shell

  -- of a machine
  abbrev Keeps : Machine S → Type 0
  Keeps after = P (standing_of after.shell) after.content after.copied

  -- behind what is done
  abbrev Behind : Work → Type 0
  Behind work = P work.0 (content_after meaning form (is_some machine.shell.rebuild) work.1
      (departure_from meaning form work.2 machine).state) (copied_after work.1 (machine.copied + work.3))

  -- behind a move
  abbrev pub Past : Move → Type 0
  Past move = Behind (work_of form room s move)

  module _ (places : length machine.shell.conns ≡ CALLERS) (sound : IsSound s)
      (moves : (move : Move) → Allows form room s move → Past move) where
    kept : (enough : Type 0) (by : ConnId) (connects : Bool) (who : Option Leaver) (copied : ℕ) (told : Telling)
        (acted : ShellOutcome) → enough → IsMove form room s enough by connects who copied told acted
        → Behind (work_by who copied acted)
    kept enough by connects who copied told acted places is = grind (arith, Work)

    pub kept-mark : (cf : CfId) → let after = (loss_step meaning form machine cf).machine in
        P (standing_of after.shell) after.content after.copied
    kept-mark cf =
        let acted : ShellOutcome = loss_outcome form cf machine.shell in
        let none : machine.copied + 0 ≡ machine.copied = omega arith in
        subst (λ (n : ℕ). P (standing_of acted.shell) (content_after meaning form (is_some machine.shell.rebuild)
        acted.deeds machine.content) (copied_after acted.deeds n)) none (kept (Unit {0}) (record { 0 = 0 })
        false None 0 _ acted tt (moves-loss form room machine.shell (Unit {0}) (record { 0 = 0 }) cf))

    pub kept-call : Keeps machine → ((by : ConnId) (command : C) → content_cause machine.shell by ≡ None
        → P s (content_done meaning form machine by command).machine.content machine.copied)
        → (by : ConnId) (asked : Ask C) → let after = (step meaning form machine by asked).machine in
        P (standing_of after.shell) after.content after.copied
    kept-call keeps contents by (Ask.Shell command) = go (shell_cause form room machine.shell by command) refl
      where
        go : (cause : Option Refusal) → shell_cause form room machine.shell by command ≡ cause
            → Keeps (unless meaning form cause machine (command_done meaning form machine by command)).machine
        go (Some refusal) is = keeps
        go None is = kept (length machine.shell.conns ≡ CALLERS)
            by _ _ _ _ _ places (move_by meaning form machine by command is)
    kept-call keeps contents by (Ask.Content command) = grind arith
