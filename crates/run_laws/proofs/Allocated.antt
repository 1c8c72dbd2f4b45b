-- What the next entry of a history does: whoever may use the content is connected to an instance that stands.
use Rattle.run_laws.proofs.Imports.{arith, ◌≡◌, true, Option, None, Some, List, [], ◌∷◌, ◌++◌, refl, append_assoc, append-nil, StrForm, ConnId, is_active, actives, Entry, replay, after_what, Continues, IsNext, Meaning, Ask, What, Refusal, Machine, unless, content_done, with_entered, AcceptedOf, Shell, shape_of, if_failed, content_cause, third_none, not_so, manned-replay, active_of, active_member, first_none, somebody_member, accepted_as, replay-push, stands_in}
use Rattle.shell_laws.proofs.{Moves.Change, Changes.changed, Answered.reply_for, Answered.continues-answered}

module _ {C R I S : Type 0} (meaning : Meaning C R I S) (form : StrForm) where
  -- a command on the content that the shell doesn't refuse finds an instance
  stands-content : (history : List (Entry C R)) (by : ConnId) → content_cause (replay meaning form history).shell
      by ≡ None → stands_in (replay meaning form history) ≡ true
  stands-content history by accepted =
      let shell : Shell = (replay meaning form history).shell in
      let manned = manned-replay meaning form history in
      let active : is_active shell.conns by ≡ true = grind (arith, active_of, first_none) in
      let failure : if_failed shell ≡ None = grind (arith, third_none) in
      manned.primary (somebody_member by (actives shell.conns) (active_member shell.conns by manned.places active))
      (not_so shell.failed Refusal.StructureFailed failure)

  -- entries that follow a history, in two parts
  pub continues_both : (history front others : List (Entry C R)) → Continues meaning form history (front ++ others)
      → Continues meaning form history front × Continues meaning form (history ++ front) others
  continues_both history [] others goes = grind (arith, append-nil)
  continues_both history (entry ∷ front) others goes =
      grind (arith, append_assoc, continues_both (history ++ entry ∷ []) front others goes.1)

  module _ (history : List (Entry C R)) (entry : Entry C R) (next : IsNext meaning form history entry) where
    abbrev machine : Machine S
    machine = replay meaning form history

    answered : entry.reply ≡ reply_for meaning form machine entry.by entry.what
    answered = (continues-answered meaning form history (entry ∷ []) (next, tt)).0

    -- what it does to the content
    pub next-change : meaning.forget (meaning.empty (shape_of form)) ≡ meaning.empty (shape_of form) → Change
        meaning form machine (replay meaning form (history ++ entry ∷ [])) entry.by entry.what entry.reply
    next-change unregistered = rw (replay-push meaning form history entry, answered)
        (changed meaning form unregistered machine entry.by entry.what)

    -- an accepted command finds an instance, and leaves it
    pub next-stands : (told : AcceptedOf C R) → accepted_as entry.what entry.reply ≡ Some told
        → stands_in (replay meaning form (history ++ entry ∷ [])) ≡ true
    next-stands told is = rw (replay-push meaning form history entry) (by_what entry.what (rw answered at is))
      where
        by_cause : (command : C) (cause : Option Refusal) → content_cause machine.shell entry.by ≡ cause → let done =
            with_entered (unless meaning form cause machine (content_done meaning form machine entry.by command)) in
            accepted_as (What.Call (Ask.Content command)) done.reply ≡ Some told → stands_in done.machine ≡ true
        by_cause command None none is = stands-content history entry.by none
        by_cause command (Some refusal) none is = absurd cc

        by_what : (what : What C) → accepted_as what (reply_for meaning form machine entry.by what) ≡ Some told
            → stands_in (after_what meaning form machine entry.by what) ≡ true
        by_what (What.Call (Ask.Content command)) is = by_cause command (content_cause machine.shell entry.by) refl is
        by_what (What.Call (Ask.Shell command)) is = absurd cc
        by_what (What.Lost cf) is = absurd cc
