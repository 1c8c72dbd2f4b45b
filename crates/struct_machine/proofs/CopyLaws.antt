-- COPY behind the marks that its links make.
use Rattle.struct_machine.proofs.Imports.{arith, ◌≡◌, ℕ, ◌+◌, ◌⊎◌, true, List, ◌++◌, Option, None, Some, IfSome, is_some, ap, ◌∙◌, subst, if◌then◌else◌, min, StrForm, CfId, ConnId, Refusal, ShellReply, Lost, Reply, Room, listed, Machine, CallOutcome, command_done, copied_after, moved_by, room_of, unless, Meaning, fresh_of, Shell, ShellOutcome, failed_outcome, mark_outcome, shell_cause, shell_done, stopped_outcome, itself, ShellView, Rebuild, IsManned, fourth_none, with_copied, Kept, lacking_in, AreOf, copy_reply, judged, machine_of, room_in, AreTold, behind_marks, lost_at, marks_in, Mark, ShellCmd, Ask}
use Rattle.struct_machine.proofs.BeforeLaws.{copied_more, nothing_lacks}
use Rattle.struct_machine.proofs.KeptLaws.{room_left}

no_other : (second : Option CfId) → (is_some second ≡ true → ⊥) → second ≡ None
no_other second none = grind arith

-- what copied items count for ends with all, and with the new instance
record IsEnded (form : StrForm) (shell : Shell) (by : ConnId) (n : ℕ) (acted : ShellOutcome) : Type 0 where
  pub copied : (k : ℕ) → copied_after acted.deeds k ≡ 0
  pub refused : (room : Room) → is_some (shell_cause form room acted.shell by (ShellCmd.Copy n)) ≡ true

module _ (form : StrForm) (shell : Shell) (by : ConnId) (n : ℕ) (cf : CfId) where
  abbrev marked : ShellOutcome → ShellOutcome
  marked lost = record lost { shell = record lost.shell { lost = if lost.shell.failed then Some cf else None } }

  failed_ends : IsEnded form shell by n (marked (failed_outcome form shell))
  failed_ends = grind arith

  stopped_ends : (rebuild : Rebuild) → IsEnded form shell by n (marked (stopped_outcome rebuild shell))
  stopped_ends rebuild = grind arith

-- ---- the whole of it

module _ {C R I S : Type 0} (meaning : Meaning C R I S) (form : StrForm) (machine : Machine S) (by : ConnId) (n : ℕ)
    (manned : IsManned machine.shell)
    (accepted : shell_cause form (room_of meaning form machine) machine.shell by (ShellCmd.Copy n) ≡ None) where
  abbrev room : Room
  room = room_of meaning form machine

  alone : machine.shell.instances.secondary ≡ None
  alone = grind (arith, no_other, fourth_none)

  ends : (cf : CfId) → (machine.shell.instances.primary ≡ Some cf) ⊎ (fresh_of machine.shell.rebuild ≡ Some cf)
      → IsEnded form machine.shell by n (mark_outcome form cf machine.shell)
  ends cf either = grind (arith, alone, itself, stopped_ends, failed_ends)

  -- with so many items more in the new instance
  abbrev pub with_items : ℕ → Machine S
  with_items more = record machine { copied = machine.copied + more }

  -- one loss, of the machine with the items that were copied, and of the one before
  same_loss : (cf : CfId) (more : ℕ) → (machine.shell.instances.primary ≡ Some cf) ⊎ (fresh_of
      machine.shell.rebuild ≡ Some cf) → lost_at meaning form (with_items more) cf ≡ lost_at meaning form machine cf
  same_loss cf more either = grind (arith, ends)

  refused_so : (cause : Option Refusal) (answer : CallOutcome R S) (behind : Machine S) (told : Reply R)
      → is_some cause ≡ true → (answered : ShellReply) → told ≡ copy_reply cause answered
      → Path (CallOutcome R S) (record { reply = told; machine = behind }) (unless meaning form cause behind answer)
  refused_so cause answer behind told some answered is = grind arith

  -- what COPY answers behind the marks, and leaves
  pub copy_done : (lost : Lost) (now : Machine S) (seen : Room) (told : Reply R)
      → IfSome lost.first (λ cf. machine.shell.instances.primary ≡ Some cf) → IfSome lost.second
      (λ cf. fresh_of machine.shell.rebuild ≡ Some cf) → (is_some lost.first ≡ true → lost.second ≡ None)
      → now ≡ behind_marks meaning form (with_items (moved_by room (ShellCmd.Copy n))) (marks_in lost)
      → seen.left ≡ room.left → told ≡ copy_reply (shell_cause form seen now.shell by (ShellCmd.Copy n)) (shell_done
      form seen now.shell by (ShellCmd.Copy n)).reply → Path (CallOutcome R S) (record { reply = told; machine = now })
      (judged meaning form (behind_marks meaning form machine (marks_in lost)) by (Ask.Shell (ShellCmd.Copy n)))
  copy_done lost now seen told first second stopped behind left is = grind (arith, Goes, alone_lost)
    where
      more : ℕ
      more = moved_by room (ShellCmd.Copy n)

      Goes : Option CfId → Option CfId → Type 0
      Goes one two = now ≡ behind_marks meaning form (with_items more) (listed one ++ listed two)
          → Path (CallOutcome R S) (record { reply = told; machine = now }) (judged meaning
          form (behind_marks meaning form machine (listed one ++ listed two)) by (Ask.Shell (ShellCmd.Copy n)))

      alone_lost : (cf : CfId) → (machine.shell.instances.primary ≡ Some cf) ⊎ (fresh_of machine.shell.rebuild ≡ Some
          cf) → now ≡ lost_at meaning form (with_items more) cf → Path (CallOutcome R S) (record {
            reply = told;
            machine = now;
          }) (judged meaning form (lost_at meaning form machine cf) by (Ask.Shell (ShellCmd.Copy n)))
      alone_lost cf either behind =
          let behind_it : now ≡ lost_at meaning form machine cf = behind ∙ same_loss cf more either in
          let ended : IsEnded form machine.shell by n (mark_outcome form cf machine.shell) = ends cf either in
          subst (λ (m : Machine S). Path (CallOutcome R S) (record { reply = told; machine = now }) (judged meaning
          form m by (Ask.Shell (ShellCmd.Copy n)))) behind_it (refused_so (shell_cause form (room_of meaning form now)
          now.shell by (ShellCmd.Copy n)) (command_done meaning form now by (ShellCmd.Copy n)) now told
          (ap (λ (m : Machine S). is_some (shell_cause form (room_of meaning form now) m.shell by (ShellCmd.Copy n)))
          behind_it ∙ ended.refused (room_of meaning form now)) _ is)

  -- the marks tell the same of the machine before the items were copied
  pub told_before : (lost : Lost) (more : ℕ) (marks : List Mark) → (is_some lost.first ≡ true → lost.second ≡ None)
      → AreTold meaning form (with_items more) (marks_in lost) marks
      → AreTold meaning form machine (marks_in lost) marks
  told_before lost more marks stopped told = grind arith

-- ---- once the items are copied

module _ {C R I S : Type 0} (meaning : Meaning C R I S) (shelled : ShellView) (kept : Kept S)
    (of : AreOf meaning shelled kept) (by : ConnId) (n : ℕ)
    (accepted : shell_cause shelled.form (room_in meaning shelled kept) shelled.shell by (ShellCmd.Copy n) ≡ None) (now : ShellView) (after : Kept S) (same : now.form ≡ shelled.form)
    (came : now.shell ≡ shelled.shell) (at : after.at ≡ kept.at) (holds : after.held ≡ kept.held)
    (copied : after.fresh ≡ with_copied (min n (lacking_in meaning kept.held kept.fresh)) kept.fresh) where
  abbrev before : Machine S
  before = machine_of meaning shelled kept

  pub copied_machine : machine_of meaning now after
      ≡ record before { copied = before.copied + moved_by (room_in meaning shelled kept) (ShellCmd.Copy n) }
  copied_machine = grind (arith, copied_more, nothing_lacks, room_left)
