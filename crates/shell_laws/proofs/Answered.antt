-- Entries that have the replies of the machine, as those of a legal history do.
use Rattle.shell_laws.proofs.Imports.{arith, ◌≡◌, List, [], ◌∷◌, ◌++◌, StrForm, ConnId, Reply, What, Entry, machine_after, replay, Continues, Machine, step, loss_step, Meaning, replay-push}

module _ {C R I S : Type 0} (meaning : Meaning C R I S) (form : StrForm) where
  -- the machine's reply to a call, or for the mark of a lost facility
  abbrev pub reply_for : Machine S → ConnId → What C → Reply R
  reply_for machine by (What.Call asked) = (step meaning form machine by asked).reply
  reply_for machine by (What.Lost cf) = (loss_step meaning form machine cf).reply

  -- the entries have the machine's replies, one after another
  abbrev pub AreAnswered : Machine S → List (Entry C R) → Type 0
  AreAnswered machine [] = Unit {0}
  AreAnswered machine (entry ∷ entries) = (entry.reply ≡ reply_for machine entry.by entry.what)
      × AreAnswered (machine_after meaning form machine entry) entries

  -- and so has each entry that follows one
  pub continues-answered : (history entries : List (Entry C R)) → Continues meaning form history entries
      → AreAnswered (replay meaning form history) entries
  continues-answered history [] goes = tt
  continues-answered history (entry ∷ entries) goes =
      grind (arith, replay-push, continues-answered (history ++ entry ∷ []) entries goes.1)
