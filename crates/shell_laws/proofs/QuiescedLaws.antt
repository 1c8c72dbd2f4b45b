-- Who is quiesced: the members that responded to QUIESCE since the rebuild's start, until it is stopped.
use Rattle.shell_laws.proofs.Imports.{arith, ◌≡◌, ℕ, Bool, true, false, not, ◌&&◌, ◌||◌, ◌==◌, if◌then◌else◌, List, [], ◌∷◌, ◌++◌, Option, None, Some, option_map, filter, list_all, refl, sym, ap, ◌∙◌, subst, eqb-true, fold_push, list_all-filter, list_all_weaker, StrForm, ConnId, Refusal, Stage, Quiesce, Connect, Copy, Cleanup, Stopping, is_member, Entry, replay, IsLegal, Meaning, if_quiesced, actives_after, Reading, awaited, has_given, passed, read_next, read_past, reading_told, rebuild_of, with_told, Telling, TellingEntry, telling_entry, Starts, Stops, Fails, Departs, Places, Copies, Completes, Responds, Forces, Deallocates, Nothing, behind_start, next_behind, quiesced_in, quiesced_told, with_behind}
use Rattle.shell_laws.proofs.HistoryLaws.{IsRead, IsReplied, read-legal, reading-push}

abbrev gave : ℕ → List TellingEntry → ConnId → Bool
gave number behind conn = has_given Quiesce number behind conn

-- in QUIESCE the entries of the stage are those behind the start; past it each member has responded
abbrev pub IsQuieting : Stage → List ConnId → ℕ → (entries behind : List TellingEntry) → Type 0
IsQuieting Quiesce members number entries behind = entries ≡ behind
IsQuieting Connect members number entries behind = list_all (gave number behind) members ≡ true
IsQuieting Copy members number entries behind = list_all (gave number behind) members ≡ true
IsQuieting Cleanup members number entries behind = list_all (gave number behind) members ≡ true
IsQuieting Stopping members number entries behind = Unit {0}

abbrev pub IsQuieted : Option Reading → List TellingEntry → Type 0
IsQuieted None behind = Unit {0}
IsQuieted (Some read) behind = IsQuieting read.stage read.members read.number read.entries behind

-- ---- one entry more

all_given : (p : ConnId → Bool) (conns : List ConnId) → filter (λ conn. not (p conn)) conns ≡ []
    → list_all p conns ≡ true
all_given p [] none = refl
all_given p (conn ∷ conns) none = grind (arith, all_given p conns)

-- what has been given stays given
still_given : (number : ℕ) (entry : TellingEntry) (behind : List TellingEntry) (conns : List ConnId)
    → list_all (gave number behind) conns ≡ true → list_all (gave number (entry ∷ behind)) conns ≡ true
still_given number entry behind conns all =
    list_all_weaker (gave number behind) (gave number (entry ∷ behind)) (λ conn is. grind arith) conns all

-- a stage that may pass, with these members left
passing : (at : Stage) (members left : List ConnId) (read : Reading) (behind : List TellingEntry)
    → (at ≡ Quiesce → left ≡ [] → list_all (gave read.number behind) read.members ≡ true)
    → IsQuieting at read.members read.number read.entries behind
    → IsQuieted (read_past members left (record read { stage = at })) behind
passing at [] left read behind all is = tt
passing at (member ∷ members) (conn ∷ left) read behind all is = is
passing Quiesce (member ∷ members) [] read behind all is = all refl refl
passing Connect (member ∷ members) [] read behind all is = is
passing Copy (member ∷ members) [] read behind all is = is
passing Cleanup (member ∷ members) [] read behind all is = tt
passing Stopping (member ∷ members) [] read behind all is = tt

-- the same behind an entry, of a member that departs perhaps
kept_quieting : (at : Stage) (keep : ConnId → Bool) (members : List ConnId) (number : ℕ) (entry : TellingEntry)
    (entries behind next : List TellingEntry) → (at ≡ Quiesce → next ≡ entry ∷ entries)
    → IsQuieting at members number entries behind
    → IsQuieting at (filter keep members) number next (entry ∷ behind)
kept_quieting Quiesce keep members number entry entries behind next is same = is refl ∙ ap (λ es. entry ∷ es) same
kept_quieting Connect keep members number entry entries behind next is all =
    list_all-filter (gave number (entry ∷ behind)) keep members (still_given number entry behind members all)
kept_quieting Copy keep members number entry entries behind next is all =
    list_all-filter (gave number (entry ∷ behind)) keep members (still_given number entry behind members all)
kept_quieting Cleanup keep members number entry entries behind next is all =
    list_all-filter (gave number (entry ∷ behind)) keep members (still_given number entry behind members all)
kept_quieting Stopping keep members number entry entries behind next is all = tt

all_kept : (members : List ConnId) → filter (λ conn. true) members ≡ members
all_kept [] = refl
all_kept (conn ∷ members) = ap (λ rest. conn ∷ rest) (all_kept members)

module _ (by : ConnId) (told : Telling) (read : Reading) (behind : List TellingEntry)
    (is : IsQuieted (Some read) behind) where
  abbrev entry : TellingEntry
  entry = record { by = by; telling = told }

  -- a reading of the same stage and number, some of whose members are left
  past_entry : (keep : ConnId → Bool) (after : Reading) → after.stage ≡ read.stage → after.number ≡ read.number
      → after.members ≡ filter keep read.members → (read.stage ≡ Quiesce → after.entries ≡ entry ∷ read.entries)
      → IsQuieted (passed after) (entry ∷ behind)
  past_entry keep after stage number members entries =
      subst (λ (at : Stage). IsQuieted (read_past after.members (awaited after) (record after { stage = at }))
      (entry ∷ behind)) (sym stage) (passing read.stage after.members (awaited after) after (entry ∷ behind)
      all here)
    where
      here : IsQuieting read.stage after.members after.number after.entries (entry ∷ behind)
      here = rw (members, number) (kept_quieting read.stage keep read.members read.number entry read.entries behind
          after.entries entries is)

      all : read.stage ≡ Quiesce → awaited after ≡ [] → list_all (gave after.number (entry ∷ behind)) after.members ≡ true
      all quiesce none =
          let same : after.entries ≡ entry ∷ behind =
          subst (λ (at : Stage). IsQuieting at after.members after.number after.entries (entry ∷ behind)) quiesce here
          in all_given (gave after.number (entry ∷ behind)) after.members (grind arith)

  unmoved : (after : Reading) → after.stage ≡ read.stage → after.number ≡ read.number → after.members ≡ read.members
      → (read.stage ≡ Quiesce → after.entries ≡ entry ∷ read.entries) → IsQuieted (passed after) (entry ∷ behind)
  unmoved after stage number members entries =
      past_entry (λ conn. true) after stage number (members ∙ sym (all_kept read.members)) entries

quiet_next : (actives : List ConnId) (by : ConnId) (told : Telling) (read : Option Reading)
    (behind : List TellingEntry) → IsQuieted read behind → IsQuieted (read_next actives by told read)
    (with_behind behind (record { by = by; telling = told }))
quiet_next actives by (Starts number caps) read behind is = refl
quiet_next actives by Stops (Some read) behind is = tt
quiet_next actives by Fails (Some read) behind is = tt
quiet_next actives by (Places cf) (Some read) behind is =
    unmoved by (Places cf) read behind is (with_told by (Places cf) read) refl refl refl (λ quiesce. refl)
quiet_next actives by (Copies moved) (Some read) behind is =
    unmoved by (Copies moved) read behind is (with_told by (Copies moved) read) refl refl refl (λ quiesce. refl)
quiet_next actives by Completes (Some read) behind is =
    unmoved by Completes read behind is (with_told by Completes read) refl refl refl (λ quiesce. refl)
quiet_next actives by (Responds event) (Some read) behind is =
    unmoved by (Responds event) read behind is (with_told by (Responds event) read) refl refl refl (λ quiesce. refl)
quiet_next actives by Departs (Some read) behind is =
    past_entry by Departs read behind is (λ conn. not (conn.0 == by.0)) (with_told by Departs read) refl refl refl
    (λ quiesce. rw quiesce refl)
quiet_next actives by Forces (Some read) behind is =
    unmoved by Forces read behind is (with_told by Forces read) refl refl refl (λ quiesce. rw quiesce refl)
quiet_next actives by Deallocates (Some read) behind is =
    unmoved by Deallocates read behind is (with_told by Deallocates read) refl refl refl (λ quiesce. refl)
quiet_next actives by Nothing (Some read) behind is =
    unmoved by Nothing read behind is (with_told by Nothing read) refl refl refl (λ quiesce. refl)
quiet_next actives by _ None behind is = tt

-- ---- who is quiesced

-- a member among some of them
member_kept : (p : ConnId → Bool) (conn : ConnId) (conns : List ConnId)
    → is_member conn (filter p conns) ≡ (is_member conn conns && p conn)
member_kept p conn [] = refl
member_kept p conn (first ∷ others) = go (first.0 == conn.0) refl (member_kept p conn others)
  where
    go : (same : Bool) → (first.0 == conn.0) ≡ same
        → is_member conn (filter p others) ≡ (is_member conn others && p conn)
        → is_member conn (filter p (first ∷ others)) ≡ (is_member conn (first ∷ others) && p conn)
    go true is rest =
        let e : first ≡ conn = ap (λ (n : ℕ). record { 0 = n }) (eqb-true first.0 conn.0 is) in
        let here : p conn ≡ p first = ap p (sym e) in
        grind arith
    go false is rest = grind arith

member_of_all : (p : ConnId → Bool) (conn : ConnId) (conns : List ConnId) → list_all p conns ≡ true
    → is_member conn conns ≡ true → p conn ≡ true
member_of_all p conn [] all is = absurd (cc)
member_of_all p conn (first ∷ others) all is = go (first.0 == conn.0) refl (member_of_all p conn others)
  where
    go : (same : Bool) → (first.0 == conn.0) ≡ same
        → (list_all p others ≡ true → is_member conn others ≡ true → p conn ≡ true) → p conn ≡ true
    go true same rest =
        let e : first ≡ conn = ap (λ (n : ℕ). record { 0 = n }) (eqb-true first.0 conn.0 same) in
        let here : p conn ≡ p first = ap p (sym e) in
        grind arith
    go false same rest = grind arith

quiesced_as : (conn : ConnId) (behind : List TellingEntry) (read : Option Reading) → IsQuieted read behind
    → if_quiesced conn (option_map rebuild_of read) ≡ option_map Refusal.Quiesced (quiesced_in conn behind read)
quiesced_as conn behind None is = refl
quiesced_as conn behind (Some read) is = go read.stage refl
  where
    go : (at : Stage) → read.stage ≡ at
        → if_quiesced conn (Some (rebuild_of read)) ≡ option_map Refusal.Quiesced (quiesced_in conn behind (Some read))
    go Quiesce at = grind (arith, member_kept)
    go Stopping at = grind arith
    go at is_at = grind (arith, member_of_all)

-- ---- histories

module _ {C R I S : Type 0} (meaning : Meaning C R I S) (form : StrForm) where
  abbrev active : List (Entry C R) → List ConnId
  active = actives_after meaning form

  abbrev Quieted : List (Entry C R) → Type 0
  Quieted history = IsQuieted (reading_told active history) (behind_start history)

  quieted_next : (history : List (Entry C R)) (entry : Entry C R) → IsReplied meaning form history entry
      → IsRead meaning form history → IsRead meaning form (history ++ entry ∷ []) → Quieted history
      → Quieted (history ++ entry ∷ [])
  quieted_next history entry replied read read' is =
      subst (IsQuieted (reading_told active (history ++ entry ∷ [])))
      (sym (fold_push next_behind [] history entry))
      (subst (λ (r : Option Reading). IsQuieted r (next_behind (behind_start history) entry))
      (sym (reading-push meaning form history entry)) (quiet_next (active history) entry.by
      (telling_entry entry).telling (reading_told active history) (behind_start history) is))

  pub quiesced-legal : (history : List (Entry C R)) (conn : ConnId) → IsLegal meaning form history
      → if_quiesced conn (replay meaning form history).shell.rebuild
      ≡ option_map Refusal.Quiesced (quiesced_told active history conn)
  quiesced-legal history conn legal =
      let both = read-legal meaning form Quieted quieted_next history legal tt in
      ap (if_quiesced conn) (sym both.0.same) ∙ quiesced_as conn (behind_start history) (reading_told active history) both.1
