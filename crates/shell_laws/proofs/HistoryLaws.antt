-- The rebuild that the machine keeps is the one that its history tells of.
use Rattle.shell_laws.proofs.Imports.{arith, ◌≡◌, List, [], ◌∷◌, ◌++◌, Option, None, option_map, refl, sym, ap, ◌∙◌, subst, append_assoc, append-nil, StrForm, ConnId, actives, Reply, What, Entry, after_what, replay, IsLegal, Machine, Meaning, replay-push, continues_legal, Rebuild, actives_after, HasMembers, Reading, read_from, read_next, reading_told, rebuild_of, rebuild_told, rebuild_next, Telling, telling_of, telling_entry, told_from}
use Rattle.shell_laws.proofs.Answered.{reply_for, AreAnswered, continues-answered}
use Rattle.shell_laws.proofs.ReadingLaws.{IsGoing, told-next, going-next}
use Rattle.shell_laws.proofs.{MemberLaws.manned-replay, StepLaws.rebuild-step, StepLaws.rebuild-loss}

-- ---- one entry more

pub told-push : {C R X : Type 0} (next : (before : List (Entry C R)) → Entry C R → X → X)
    (before entries : List (Entry C R)) (entry : Entry C R) (told : X)
    → told_from next before (entries ++ entry ∷ []) told
    ≡ next (before ++ entries) entry (told_from next before entries told)
told-push next before [] entry told = ap (λ (front : List _). next front entry told) (sym (append-nil before))
told-push next before (first ∷ entries) entry told =
    told-push next (before ++ first ∷ []) entries entry (next before first told)
    ∙ ap (λ (front : List _). next front entry (told_from next (before ++ first ∷ []) entries (next before first told)))
    (append_assoc before (first ∷ []) entries)

module _ {C R : Type 0} (active : List (Entry C R) → List ConnId) where
  read-push : (before entries : List (Entry C R)) (entry : Entry C R) (read : Option Reading)
      → read_from active before (entries ++ entry ∷ []) read ≡ read_next (active (before ++ entries)) entry.by
      (telling_entry entry).telling (read_from active before entries read)
  read-push before [] entry read = ap (λ (front : List (Entry C R)).
      read_next (active front) entry.by (telling_entry entry).telling read) (sym (append-nil before))
  read-push before (first ∷ entries) entry read =
      let read' = read_next (active before) first.by (telling_entry first).telling read in
      read-push (before ++ first ∷ []) entries entry read' ∙ ap (λ (front : List (Entry C R)). read_next (active front)
      entry.by (telling_entry entry).telling (read_from active (before ++ first ∷ []) entries read'))
      (append_assoc before (first ∷ []) entries)

module _ {C R I S : Type 0} (meaning : Meaning C R I S) (form : StrForm) where
  -- the entry has the machine's reply
  abbrev pub IsReplied : List (Entry C R) → Entry C R → Type 0
  IsReplied history entry = entry.reply ≡ reply_for meaning form (replay meaning form history) entry.by entry.what

  -- what each such entry keeps holds after every legal history
  module _ (P : List (Entry C R) → Type 0)
      (next : (history : List (Entry C R)) (entry : Entry C R) → IsReplied history entry → P history
      → P (history ++ entry ∷ [])) where
    replied_fold : (history entries : List (Entry C R)) → AreAnswered meaning form (replay meaning form history) entries
        → P history → P (history ++ entries)
    replied_fold history [] answered is = subst P (sym (append-nil history)) is
    replied_fold history (entry ∷ entries) answered is = subst P (append_assoc history (entry ∷ []) entries)
        (replied_fold (history ++ entry ∷ []) entries (subst (λ (m : Machine S). AreAnswered meaning form m entries)
        (sym (replay-push meaning form history entry)) answered.1) (next history entry answered.0 is))

    pub replied-legal : (history : List (Entry C R)) → IsLegal meaning form history → P [] → P history
    replied-legal history legal is = replied_fold [] history
        (continues-answered meaning form [] history (continues_legal meaning form history legal)) is

  -- ---- the rebuild

  -- what an entry tells is what the machine keeps
  kept_next : (machine : Machine S) (by : ConnId) (told : What C) (answer : Reply R)
      → answer ≡ reply_for meaning form machine by told → rebuild_next (actives machine.shell.conns)
      by (telling_of told answer) machine.shell.rebuild ≡ (after_what meaning form machine by told).shell.rebuild
  kept_next machine by (What.Call asked) answer answered = grind (arith, rebuild-step)
  kept_next machine by (What.Lost cf) answer answered = rw answered (sym (rebuild-loss meaning form machine by cf))

  abbrev pub active : List (Entry C R) → List ConnId
  active = actives_after meaning form

  pub reading-push : (history : List (Entry C R)) (entry : Entry C R) → reading_told active (history ++ entry ∷ [])
      ≡ read_next (active history) entry.by (telling_entry entry).telling (reading_told active history)
  reading-push history entry = read-push active [] history entry None

  -- the rebuild that is read is the machine's, and its stage hasn't passed
  pub record IsRead (history : List (Entry C R)) : Type 0 where
    pub goes : IsGoing (reading_told active history)
    pub same : rebuild_told active history ≡ (replay meaning form history).shell.rebuild

  read_entry : (history : List (Entry C R)) (entry : Entry C R) → IsReplied history entry → IsRead history
      → IsRead (history ++ entry ∷ [])
  read_entry history entry replied is =
      let machine = replay meaning form history in
      let telling : Telling = (telling_entry entry).telling in
      let longer : List (Entry C R) = history ++ entry ∷ [] in
      let read : Option Reading = reading_told active history in
      let next : option_map rebuild_of (read_next (active history) entry.by telling read)
      ≡ (replay meaning form longer).shell.rebuild =
      told-next (active history) entry.by telling read is.goes
      ∙ ap (rebuild_next (active history) entry.by telling) is.same
      ∙ kept_next machine entry.by entry.what entry.reply replied
      ∙ ap (λ (m : Machine S). m.shell.rebuild) (sym (replay-push meaning form history entry)) in
      let pushed = reading-push history entry in
      record {
        goes = subst IsGoing (sym pushed) (going-next (active history) (active longer) entry.by telling read is.goes
            (subst (λ (rebuild : Option Rebuild). HasMembers rebuild (active longer)) (sym next)
            (manned-replay meaning form longer).members));
        same = ap (option_map rebuild_of) pushed ∙ next;
      }

  -- a fact that each entry keeps where the rebuild is read so
  module _ (P : List (Entry C R) → Type 0)
      (next : (history : List (Entry C R)) (entry : Entry C R) → IsReplied history entry → IsRead history
      → IsRead (history ++ entry ∷ []) → P history → P (history ++ entry ∷ [])) where
    both_next : (history : List (Entry C R)) (entry : Entry C R) → IsReplied history entry
        → IsRead history × P history → IsRead (history ++ entry ∷ []) × P (history ++ entry ∷ [])
    both_next history entry replied both =
        let read = read_entry history entry replied both.0 in
        (read, next history entry replied both.0 read both.1)

    pub read-legal : (history : List (Entry C R)) → IsLegal meaning form history → P [] → IsRead history × P history
    read-legal history legal is =
        replied-legal (λ h. IsRead h × P h) both_next history legal (record { goes = tt; same = refl }, is)

  pub rebuild-legal : (history : List (Entry C R)) → IsLegal meaning form history
      → (replay meaning form history).shell.rebuild ≡ rebuild_told active history
  rebuild-legal history legal =
      sym ((read-legal (λ h. Unit {0}) (λ h entry replied read read' is. is) history legal tt).0.same)
