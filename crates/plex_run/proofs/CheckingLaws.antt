-- What a check of a text ends with: which texts are split, too long or refused, and what is told of the others.
use Rattle.plex_run.proofs.Imports.{◌≡◌, ◌≢◌, ℕ, ◌≤◌, ◌<◌, ◌⊎◌, inl, inr, List, [], ◌++◌, length, length-append, Option, None, Some, IfSome, refl, sym, ap, ◌∙◌, subst, arith, codes, Why, Script, IsScript, SaysOne, IsExclusive, ReadFault, TellsFault, Checked, Printed, Judges, IsReport, IsFirstUnread, ArePicked, Output, HasFailed, Writes, WritesFront, Gains, why_word, memory_line, IsLong, EndsTask, script_limit, check_limit, IsSplit, HasNoReport, Verdict, NoText, verdict_line, verdict_status, verdict_of_checked, IsSaid, IsVerdict, ReadsOne, IsOneAnswer, IsOnlyStatus, IsJudged, IsUncheckedAt, IsCheckTooLong, checking, check_word, EndsCheck}
use Rattle.plex_run.proofs.{CuttingLaws.one_split, TextLaws.IsFair, TextLaws.done_ends}

-- ---- what is said of a report

-- of a text that is no report
pub only_unread : (script : Script) (rest : List ℕ) (line : ℕ) → IsFirstUnread script rest line
    → IsOnlyStatus script rest (NoText line)
only_unread script rest line first other (inl it) = ap verdict_status it.2
only_unread script rest line first other (inr it) = absurd (first.unread it.0 it.1)

-- and of one that is judged
pub only_judged : (script : Script) (rest : List ℕ) (printed : Printed) (answer : Checked) → ReadsOne script
    → IsReport script rest printed → ArePicked script printed → IsOneAnswer script printed
    → Judges script printed answer → IsOnlyStatus script rest (verdict_of_checked script answer)
only_judged script rest printed answer reads report picked one judged other (inl it) =
    absurd (it.1.unread printed report)
only_judged script rest printed answer reads report picked one judged other (inr it) =
    let same : it.0 ≡ printed = reads rest it.0 printed it.1 it.2 report picked in
    let judges : Judges script printed it.3.0 = subst (λ (p : Printed). Judges script p it.3.0) same it.3.1 in
    let answers : it.3.0 ≡ answer = one it.3.0 answer judges judged in
    ap verdict_status (it.3.2 ∙ ap (λ (a : Checked). verdict_of_checked script a) answers)

pub said_unread : (script : Script) (rest : List ℕ) (line : ℕ) → IsFirstUnread script rest line
    → IsSaid script rest (NoText line)
said_unread script rest line first = inl (line, first, refl)

pub said_judged : (script : Script) (rest : List ℕ) (printed : Printed) (answer : Checked)
    → IsReport script rest printed → ArePicked script printed → Judges script printed answer
    → IsSaid script rest (verdict_of_checked script answer)
said_judged script rest printed answer report picked judged = inr (printed, report, picked, (answer, judged, refl))

-- ---- which texts are taken

-- neither part is longer than the whole
pub split_short : (text part rest : List ℕ) → IsSplit text part rest
    → (length part ≤ length text) × (length rest ≤ length text)
split_short text part rest split = by_whole split.whole
  where
    by_whole : (text ≡ part ++ (codes "REPORT\n" ++ rest)) ⊎ ((text ≡ part ++ codes "REPORT") × (rest ≡ []))
        → (length part ≤ length text) × (length rest ≤ length text)
    by_whole (inl whole) =
        let size = ap (λ (t : List ℕ). length t) whole ∙ length-append part (codes "REPORT\n" ++ rest) in
        let behind = length-append (codes "REPORT\n") rest in
        (omega (arith, size, behind), omega (arith, size, behind))
    by_whole (inr (whole, none)) =
        let size = ap (λ (t : List ℕ). length t) whole ∙ length-append part (codes "REPORT") in
        let empty = ap (λ (t : List ℕ). length t) none in
        (omega (arith, size), omega (arith, empty))

-- no text is taken and refused
pub check_fair : IsExclusive → IsFair check_word
check_fair never text line told takes (inl none) = none.0 takes.1.part takes.1.rest takes.1.split
check_fair never text line told takes (inr it) =
    let same = one_split text takes.1.part takes.1.rest it.0 it.1 takes.1.split it.3 in
    let says : IsScript it.0 takes.1.script = subst (λ p. IsScript p takes.1.script) same.0 takes.1.says in
    never it.0 takes.1.script line it.2 says it.4

-- a text that is split within both limits isn't too long
pub split_fits : (text part rest : List ℕ) → length text ≤ check_limit → IsSplit text part rest
    → length part ≤ script_limit → IsLong check_word text → ⊥
split_fits text part rest short split low (limit, inl it) = omega (arith, short, it.1)
split_fits text part rest short split low (limit, inr it) =
    let same = one_split text part rest it.2.0 it.2.1 split it.2.2 in
    let size = ap (λ (p : List ℕ). length p) same.0 in
    omega (arith, low, size, it.2.3)

-- nor is one without the line
pub unsplit_fits : (text : List ℕ) → length text ≤ check_limit → HasNoReport text → IsLong check_word text → ⊥
unsplit_fits text short none (limit, inl it) = omega (arith, short, it.1)
unsplit_fits text short none (limit, inr it) = none it.2.0 it.2.1 it.2.2

pub unsplit_told : (text : List ℕ) → HasNoReport text → IsUncheckedAt text 0 (codes "NOREPORT")
unsplit_told text none = inl (none, refl, refl)

pub fault_told : (text part rest : List ℕ) {line : ℕ} {why : Why} {told : List ℕ} {because : ReadFault}
    → IsSplit text part rest → because ≡ ReadFault.Script line why → TellsFault part because → told ≡ why_word why
    → IsUncheckedAt text line told
fault_told text part rest {why = why} split e tells spelled = inr (part, rest, why, split, rw e at tells, spelled)

pub script_too_long : (text part rest : List ℕ) → length text ≤ check_limit → IsSplit text part rest
    → script_limit < length part → IsCheckTooLong text script_limit
script_too_long text part rest short split long = inr (refl, short, (part, rest, split, long))

pub whole_too_long : (text : List ℕ) → check_limit < length text → IsCheckTooLong text check_limit
whole_too_long text long = inl (refl, long)

-- more than both may have is more than a script may have
pub longer_than_script : (left : Option (List ℕ)) → IfSome left (λ bytes. check_limit < length bytes)
    → IfSome left (λ bytes. script_limit < length bytes)
longer_than_script None long = tt
longer_than_script (Some bytes) long = omega (arith, long)

-- ---- ends

-- the statuses of a check of a text that is taken
abbrev pub IsCheckStatus : ℕ → Type 0
IsCheckStatus status = (status ≡ 0) ⊎ ((status ≡ 9) ⊎ ((status ≡ 5) ⊎ (status ≡ 6)))

not_other : (n status : ℕ) → IsCheckStatus status → (n ≡ 3) ⊎ (n ≡ 7) → status ≢ n
not_other n status statuses other is = grind arith

nine : (status : ℕ) → IsCheckStatus status → 7 < status → status ≡ 9
nine status statuses above = grind arith

module _ (text part rest : List ℕ) (script : Script) (verdict : Verdict) {out : Output} {status : ℕ}
    (split : IsSplit text part rest) (judged : IsJudged part rest script verdict)
    (done : status ≡ 0 → (verdict_status verdict ≡ 0) × Writes out (verdict_line verdict))
    (marked : status ≡ 9 → (verdict_status verdict ≡ 9) × Gains out (verdict_line verdict))
    (front : status ≡ 5
    → (verdict_status verdict ≡ 0) × HasFailed out × WritesFront out (verdict_line verdict))
    (memory : status ≡ 6 → Gains out memory_line) (statuses : IsCheckStatus status) where
  comes : IsVerdict text verdict
  comes = record {
    part = part;
    rest = rest;
    script = script;
    split = split;
    says = judged.says;
    said = judged.said;
  }

  told : EndsTask (checking text) out status
  told = record {
    done = λ zero. (verdict, comes, (done zero).0, tt, (done zero).1);
    marked = λ above.
        let is : status ≡ 9 = nine status statuses above in
        (verdict, comes, (marked is).0 ∙ sym is, (marked is).1);
    front = λ five. ((front five).1, (verdict, comes, (front five).0, (front five).2));
    no_memory = λ six. inl (memory six);
  }

  -- of whatever else there is to be said, the status is the same
  same_status : SaysOne → (other : Verdict) → IsVerdict text other → verdict_status other ≡ verdict_status verdict
  same_status one other it =
      let parts = one_split text it.part it.rest part rest it.split split in
      let says : IsScript part it.script = subst (λ p. IsScript p it.script) parts.0 it.says in
      let same : it.script ≡ script = one part it.script script says judged.says in
      let said : IsSaid script rest other = subst (λ (s : Script). IsSaid s rest other) same
      (subst (λ r. IsSaid it.script r other) parts.1 it.said) in
      judged.only other said

  settled : SaysOne → status ≢ 6 → (other : Verdict) → IsVerdict text other
      → (status ≡ verdict_status other) ⊎ ((status ≡ 5) × (verdict_status other ≡ 0))
  settled one lack other it = by_status statuses
    where
      same : verdict_status other ≡ verdict_status verdict
      same = same_status one other it

      by_status : IsCheckStatus status
          → (status ≡ verdict_status other) ⊎ ((status ≡ 5) × (verdict_status other ≡ 0))
      by_status (inl zero) = inl (zero ∙ sym (same ∙ (done zero).0))
      by_status (inr (inl is)) = inl (is ∙ sym (same ∙ (marked is).0))
      by_status (inr (inr (inl five))) = inr (five, same ∙ (front five).0)
      by_status (inr (inr (inr six))) = absurd (lack six)

  -- what is to be said of the text was told
  pub check_ends : SaysOne → IsExclusive → length text ≤ check_limit → length part ≤ script_limit
      → EndsCheck text out status
  check_ends one never short low = done_ends (check_fair never) (split_fits text part rest short split low)
      (verdict, comes) told (not_other 3 status statuses (inl refl)) (not_other 7 status statuses (inr refl))
      (settled one)
