-- An entry by which a rebuild is stopped leaves the content, and the instances where they stood.
use Rattle.shell_laws.proofs.Imports.{arith, ◌≡◌, ◌⊎◌, ℕ, Bool, List, [], ◌∷◌, ◌++◌, refl, sym, ap, ◌∙◌, subst, fold, inl, inr, StrForm, CfId, ConnId, ShellCmd, ShellReply, Ask, Reply, What, Entry, after_what, machine_after, replay, IsLegal, Machine, opening, step, Meaning, replay-push, continues_legal, KeepsTheOld, StopsKeepTheOld, mark_telling, telling, telling_of, Stops}
use Rattle.shell_laws.proofs.Answered.{reply_for, AreAnswered, continues-answered}
use Rattle.shell_laws.proofs.LossLaws.{loss-keeps, vary-keeps}

-- ---- which entries stop a rebuild

abbrev LosesNew : ShellReply → Type 0
LosesNew answer = (number : ℕ) × (answer ≡ ShellReply.Stopped number)

mark_stops : (answer : ShellReply) → mark_telling answer ≡ Stops → LosesNew answer
mark_stops (ShellReply.Stopped number) is = (number, refl)
mark_stops answer is = absurd (grind arith)

abbrev StopTold : ShellCmd → ShellReply → Type 0
StopTold command answer = ((command ≡ ShellCmd.RebuildStop) × (answer ≡ ShellReply.Ok))
    ⊎ ((cf : CfId) × ((off : Bool) × ((command ≡ ShellCmd.Vary cf off) × LosesNew answer)))

told_stop : (command : ShellCmd) (answer : ShellReply) → telling command answer ≡ Stops → StopTold command answer
told_stop ShellCmd.RebuildStop ShellReply.Ok is = inl (refl, refl)
told_stop (ShellCmd.Vary cf off) answer is = inr (cf, (off, (refl, mark_stops answer is)))
told_stop command answer is = absurd (grind arith)

module _ {C R I S : Type 0} (meaning : Meaning C R I S) (form : StrForm) where
  stop_keeps : (machine : Machine S) (by : ConnId)
      → let stopped = step meaning form machine by (Ask.Shell ShellCmd.RebuildStop) in
      stopped.reply ≡ Reply.Shell ShellReply.Ok → KeepsTheOld machine stopped.machine
  stop_keeps machine by stops = grind arith

  stop_command : (machine : Machine S) (by : ConnId) (command : ShellCmd) (answer : ShellReply)
      → StopTold command answer → (step meaning form machine by (Ask.Shell command)).reply ≡ Reply.Shell answer
      → KeepsTheOld machine (step meaning form machine by (Ask.Shell command)).machine
  stop_command machine by command answer (inl both) replied =
      subst (λ (c : ShellCmd). (step meaning form machine by (Ask.Shell c)).reply ≡ Reply.Shell ShellReply.Ok
      → KeepsTheOld machine (step meaning form machine by (Ask.Shell c)).machine) (sym both.0) (stop_keeps machine by)
      (replied ∙ ap (λ (a : ShellReply). Reply.Shell a) both.1)
  stop_command machine by command answer (inr (cf, (off, (is, (number, stopped))))) replied =
      subst (λ (c : ShellCmd). (step meaning form machine by (Ask.Shell c)).reply
      ≡ Reply.Shell (ShellReply.Stopped number)
      → KeepsTheOld machine (step meaning form machine by (Ask.Shell c)).machine) (sym is)
      (vary-keeps meaning form machine by cf off number) (replied ∙ ap (λ (a : ShellReply). Reply.Shell a) stopped)

  stop_entry : (machine : Machine S) (by : ConnId) (what : What C) (answer : Reply R)
      → answer ≡ reply_for meaning form machine by what → telling_of what answer ≡ Stops
      → KeepsTheOld machine (after_what meaning form machine by what)
  stop_entry machine by (What.Call (Ask.Shell command)) (Reply.Shell answer) replied is =
      stop_command machine by command answer (told_stop command answer is) (sym replied)
  stop_entry machine by (What.Lost cf) (Reply.Shell answer) replied is =
      let stopped = mark_stops answer is in
      loss-keeps meaning form machine cf stopped.0 (sym replied ∙ ap (λ (a : ShellReply). Reply.Shell a) stopped.1)
  stop_entry machine by what answer replied is = absurd (grind arith)

  -- ---- histories

  replied_at : (machine : Machine S) (before behind : List (Entry C R)) (entry : Entry C R)
      → AreAnswered meaning form machine (before ++ entry ∷ behind)
      → entry.reply ≡ reply_for meaning form (fold (machine_after meaning form) machine before) entry.by entry.what
  replied_at machine [] behind entry answered = answered.0
  replied_at machine (first ∷ before) behind entry answered =
      replied_at (machine_after meaning form machine first) before behind entry answered.1

  pub stops-legal : (history : List (Entry C R)) → IsLegal meaning form history → StopsKeepTheOld meaning form history
  stops-legal history legal before behind entry split stops =
      let answered : AreAnswered meaning form (opening meaning form) (before ++ entry ∷ behind) =
      subst (AreAnswered meaning form (opening meaning form)) split (continues-answered meaning form [] history
      (continues_legal meaning form history legal)) in
      subst (λ (m : Machine S). KeepsTheOld (replay meaning form before) m)
      (sym (replay-push meaning form before entry)) (stop_entry (replay meaning form before) entry.by entry.what
      entry.reply (replied_at (opening meaning form) before behind entry answered) stops)
