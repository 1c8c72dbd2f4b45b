-- What each entry keeps holds after every history.
use Rattle.shell_laws.proofs.Imports.{arith, ◌≡◌, List, [], ◌∷◌, ◌++◌, sym, subst, append_assoc, append-nil, StrForm, ConnId, Reply, What, Entry, after_what, replay, Continues, Machine, opening, Meaning, shape_of, replay-push, stands_in}
use Rattle.shell_laws.proofs.Keeping.{IsKept, IsTraced}
use Rattle.shell_laws.proofs.Moves.Move.{Same, Left, Returned, Forgotten, Cleared}
use Rattle.shell_laws.proofs.{MemberLaws.kept-manned, Answered.reply_for, Answered.AreAnswered, Answered.continues-answered, Changes.changed}
use Rattle.shell_laws.proofs.{Moves.Change, Moves.Change.Done, Moves.Change.Quiet}

module _ {C R I S : Type 0} (meaning : Meaning C R I S) (form : StrForm)
    (unregistered : meaning.forget (meaning.empty (shape_of form)) ≡ meaning.empty (shape_of form)) where
  -- ---- of a content alone

  module _ (P : S → Type 0) (kept : IsKept meaning form P) where
    kept_change : (before after : Machine S) (by : ConnId) (told : What C) (answer : Reply R)
        → Change meaning form before after by told answer → P before.content → P after.content
    kept_change before after by told answer (Done command accepted fine e) is = grind arith
    kept_change before after by told answer (Quiet none move) is =
        grind (arith, Same, Left, Returned, Forgotten, Cleared)

    pub kept-replay : (history : List (Entry C R)) → P (replay meaning form history).content
    kept-replay history = (kept-manned meaning form (λ machine. P machine.content) (λ machine by told manned is.
        kept_change machine (after_what meaning form machine by told) by told (reply_for meaning form machine by told)
        (changed meaning form unregistered machine by told) is) history kept.empty).1

  -- ---- of a history and the content that it leaves

  module _ (P : List (Entry C R) → S → Type 0) (traced : IsTraced meaning form P) where
    abbrev Holds : List (Entry C R) → Type 0
    Holds history = P history (replay meaning form history).content

    module _ (history : List (Entry C R)) (entry : Entry C R) (is : Holds history) where
      abbrev before : Machine S
      before = replay meaning form history

      abbrev longer : List (Entry C R)
      longer = history ++ entry ∷ []

      abbrev after : Machine S
      after = after_what meaning form before entry.by entry.what

      traced_change : Change meaning form before after entry.by entry.what entry.reply → P longer after.content
      traced_change (Done command accepted fine e) = grind arith
      traced_change (Quiet none move) =
          grind (arith, Same, Left, Returned, Forgotten, Cleared, stands_in, replay-push)

    traced_fold : (history entries : List (Entry C R)) → AreAnswered meaning form (replay meaning form history) entries
        → Holds history → Holds (history ++ entries)
    traced_fold history [] answered is = subst Holds (sym (append-nil history)) is
    traced_fold history (entry ∷ entries) answered is = subst Holds (append_assoc history (entry ∷ []) entries)
        (traced_fold (history ++ entry ∷ []) entries (grind (arith, AreAnswered, replay-push)) (
        grind (arith, replay-push, traced_change, Change, changed)))

    pub traced-replay : (history : List (Entry C R)) → AreAnswered meaning form (opening meaning form) history
        → P history (replay meaning form history).content
    traced-replay history answered = traced_fold [] history answered traced.none

  -- ---- a legal history is answered

  pub legal-answered : (history : List (Entry C R)) → Continues meaning form [] history
      → AreAnswered meaning form (opening meaning form) history
  legal-answered history goes = continues-answered meaning form [] history goes
