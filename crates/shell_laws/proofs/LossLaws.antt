-- What comes of it where what stands in a facility is lost, as a mark tells it or a VARY: nothing is, one of two
-- instances, the new one of a rebuild, or the only one.
use Rattle.shell_laws.proofs.Imports.{KeepsTheOld, arith, ◌≡◌, ℕ, Bool, true, false, None, Some, ◌||◌, is_some, StrForm, CfId, ConnId, ShellReply, Reply, is_at, Machine, content_after, loss_step, step, Meaning, fresh_of, Shell, ShellOutcome, failed_outcome, idle_outcome, loss_outcome, simplex_outcome, stopped_outcome, vary_outcome, with_off, Rebuild, ShellCmd, Ask}

-- what holds in each case
pub record InEachCase (form : StrForm) (cf : CfId) (shell : Shell) (Holds : ShellOutcome → Type 0) : Type 0 where
  pub none : Holds (idle_outcome ShellReply.OkNone shell)
  pub simplex : (left : CfId) → (is_at cf shell.instances.primary || is_at cf shell.instances.secondary) ≡ true
      → Holds (simplex_outcome cf left shell)
  pub stops : (rebuild : Rebuild) → shell.rebuild ≡ Some rebuild → is_at cf rebuild.fresh ≡ true
      → Holds (stopped_outcome rebuild shell)
  pub fails : Holds (failed_outcome form shell)

-- holds of a loss
pub loss-cases : (form : StrForm) (cf : CfId) (shell : Shell) (Holds : ShellOutcome → Type 0)
    → InEachCase form cf shell Holds → Holds (loss_outcome form cf shell)
loss-cases form cf shell Holds cases = grind arith

-- holds of a VARY
pub vary-cases : (form : StrForm) (cf : CfId) (off : Bool) (shell : Shell) (Holds : ShellOutcome → Type 0)
    → Holds (idle_outcome ShellReply.Ok (with_off cf false shell)) → InEachCase form cf (with_off cf true shell) Holds
    → Holds (vary_outcome form cf off shell)
vary-cases form cf false shell Holds on cases = on
vary-cases form cf true shell Holds on cases = loss-cases form cf (with_off cf true shell) Holds cases

-- ---- a rebuild that loses its new instance

shell_reply : {R : Type 0} (one other : ShellReply) → Path (Reply R) (Reply.Shell one) (Reply.Shell other)
    → one ≡ other
shell_reply one other is = cc

module _ {C R I S : Type 0} (meaning : Meaning C R I S) (form : StrForm) (machine : Machine S) where
  -- where the answer is that it stops: the content is as it was, the primary where it stood, and there is no new
  -- instance
  abbrev KeepsIfStopped : ℕ → ShellOutcome → Type 0
  KeepsIfStopped number acted = acted.reply ≡ ShellReply.Stopped number
      → (content_after meaning form (is_some machine.shell.rebuild) acted.deeds machine.content ≡ machine.content)
      × (acted.shell.instances ≡ machine.shell.instances) × (fresh_of acted.shell.rebuild ≡ None)

  stop_keeps : (cf : CfId) (number : ℕ) (shell : Shell) → shell.instances ≡ machine.shell.instances
      → InEachCase form cf shell (KeepsIfStopped number)
  stop_keeps cf number shell same = grind arith

  pub loss-keeps : (cf : CfId) (number : ℕ) → let lost = loss_step meaning form machine cf in
      lost.reply ≡ Reply.Shell (ShellReply.Stopped number) → KeepsTheOld machine lost.machine
  loss-keeps cf number stops = grind (arith, loss-cases, stop_keeps, shell_reply)

  pub vary-keeps : (by : ConnId) (cf : CfId) (off : Bool) (number : ℕ)
      → let varied = step meaning form machine by (Ask.Shell (ShellCmd.Vary cf off)) in
      varied.reply ≡ Reply.Shell (ShellReply.Stopped number) → KeepsTheOld machine varied.machine
  vary-keeps by cf off number stops = grind (arith, vary-cases, stop_keeps, shell_reply)
