-- The lines of legal histories, in which each caller asks what the script says, fix them.
use Rattle.run_laws.proofs.Imports.{◌≡◌, ℕ, ◌≤◌, ◌<◌, ◌^◌, Bool, List, [], ◌∷◌, ◌++◌, length, map, codes, Option, Some, slice_get, refl, ◌∙◌, arith, append_assoc, All, AllByRecursion, eq-eqb, map-append, filter-append, recursion_from_All, Kind, StrForm, ConnId, StrNo, Ask, What, Entry, Meaning, calls, IsLegal, told_of, calls-append, continues_legal, altered_caches, queued_lists, lock_meaning, AnyHistory, AnyAsk, Script, AnyCall, any_call, any_calls, any_length, own_calls, lines_of, IsHistoryOf, IsOfKind, IsAnyLegal, AnyTells, structure_name, alter_words, queue_words, lock_words, alter_reply_words, queue_reply_words, lock_reply_words, entry_line, entry_lines, history_lines, histories_lines, NamesFacilities, MarksFacilities}
use Rattle.run_laws.proofs.Entries.{Asked, AsksNext, same_entries}
use Rattle.run_laws.proofs.Works.{works, next_ask, Plays, next_of}
use Rattle.run_laws.proofs.{Cuts.text_of, Cuts.same_heading, Cuts.all_same, Callers.AreApart, Heard.any_within, Played.lines_at}

-- the works of a caller at a structure
abbrev pub IsPlayedAt : Script → StrNo → Kind → List AnyCall → Type 0
IsPlayedAt script on k calls = (by : ConnId)
    → by.0 ≤ length script.connectors → Plays k (works k (lines_at on (lines_of script by))) (own_calls calls by)

-- ---- one history

module _ {C R I S : Type 0} (meaning : Meaning C R I S) (form : StrForm) (of : Ask C → AnyAsk) (script : Script)
    (on : StrNo) where
  -- what a caller asks next
  abbrev next : List (Entry C R) → ConnId → Option AnyAsk
  next before by = next_ask form.kind (works form.kind (lines_at on (lines_of script by)))
      (own_calls (map (any_call of) (calls before)) by)

  abbrev told_call : Entry C R → Ask C → AnyCall
  told_call entry asked = record {
    no = entry.no;
    by = entry.by;
    ask = of asked;
    told = told_of entry.no asked entry.reply;
  }

  call_first : (entry : Entry C R) (entries : List (Entry C R)) (asked : Ask C) → entry.what ≡ What.Call asked
      → map (any_call of) (calls (entry ∷ entries)) ≡ told_call entry asked ∷ map (any_call of) (calls entries)
  call_first entry entries asked is = rw is refl

  own_split : (before : List (Entry C R)) (entry : Entry C R) (entries : List (Entry C R)) (asked : Ask C)
      → entry.what ≡ What.Call asked → own_calls (map (any_call of) (calls (before ++ entry ∷ entries)))
      entry.by ≡ own_calls (map (any_call of) (calls before))
      entry.by ++ told_call entry asked ∷ own_calls (map (any_call of) (calls entries)) entry.by
  own_split before entry entries asked is = grind (arith, calls-append, map-append, filter-append, eq-eqb)

  module _ (one_ask : (a b : Ask C) → Some (of a) ≡ Some (of b) → a ≡ b) (cmd_words : Script → C → List (List ℕ))
      (answer_words : Script → R → List (List ℕ)) where
    asked_all : (whole before entries : List (Entry C R))
        → IsPlayedAt script on form.kind (map (any_call of) (calls whole)) → before ++ entries ≡ whole
        → AllByRecursion (λ call. call.by.0 ≤ length script.connectors) (map (any_call of) (calls entries))
        → Asked meaning form of one_ask cmd_words answer_words script next before entries
    asked_all whole before [] plays is callers = tt
    asked_all whole before (entry ∷ entries) plays is callers =
        let parts = by_what entry.what refl callers in (
          parts.0,
          asked_all whole
              (before ++ entry ∷ []) entries plays (append_assoc before (entry ∷ []) entries ∙ is) parts.1,
        )
      where
        by_what : (told : What C) → entry.what ≡ told → AllByRecursion
            (λ call. call.by.0 ≤ length script.connectors) (map (any_call of) (calls (entry ∷ entries)))
            → AsksNext meaning form of one_ask cmd_words answer_words script (next before entry.by) entry.by told
            × AllByRecursion (λ call. call.by.0 ≤ length script.connectors) (map (any_call of) (calls entries))
        by_what (What.Call asked) same callers =
            let both : AllByRecursion (λ (c : AnyCall). c.by.0 ≤ length script.connectors)
            (told_call entry asked ∷ map (any_call of) (calls entries)) = grind (arith, call_first) in
            let own = next_of form.kind (works form.kind (lines_at on (lines_of script entry.by))) (own_calls
            (map (any_call of) (calls whole)) entry.by) (own_calls (map (any_call of) (calls before)) entry.by)
            (told_call entry asked) (own_calls (map (any_call of) (calls entries)) entry.by) (plays entry.by both.0)
            (grind (arith, own_split)) in
            ((own, both.0), both.1)
        by_what (What.Lost cf) same callers = (tt, grind arith)

    pub same_history : (n : ℕ) (one other : List (Entry C R)) (xs ys : List (List ℕ)) → AreApart script.connectors
        → length one < 2 ^ 64 → length other < 2 ^ 64 → IsLegal meaning form one → IsLegal meaning form other
        → NamesFacilities one → NamesFacilities other → IsPlayedAt script on form.kind (map (any_call of) (calls one))
        → IsPlayedAt script on form.kind (map (any_call of) (calls other)) → All (λ call. call.by.0 ≤ length
        script.connectors) (map (any_call of) (calls one)) → All (λ call. call.by.0 ≤ length script.connectors)
        (map (any_call of) (calls other)) → text_of (entry_lines cmd_words answer_words script n one ++ xs) ≡ text_of
        (entry_lines cmd_words answer_words script n other ++ ys) → (one ≡ other) × (text_of xs ≡ text_of ys)
    same_history n one other xs ys apart small small' legal legal' marks marks' plays plays' callers callers' e =
        let line : Entry C R → List ℕ = entry_line cmd_words answer_words script in
        let counts = same_heading (codes "HISTORY") (structure_name script n) (length one) (length other)
        (map line one ++ xs) (map line other ++ ys) small small' e in
        let within : AnyCall → Type 0 = λ call. call.by.0 ≤ length script.connectors in
        same_entries meaning form of one_ask cmd_words answer_words script next [] one other xs ys apart counts.0 marks
        marks' (continues_legal meaning form one legal) (continues_legal meaning form other legal')
        (asked_all one [] one plays refl (recursion_from_All within _ callers))
        (asked_all other [] other plays' refl (recursion_from_All within _ callers')) counts.1

-- ---- histories of whatever kind

-- a structure's history, as its script and its callers' transcripts have it
pub record IsRight (script : Script) (n : ℕ) (form : StrForm) (entries : AnyHistory) : Type 0 where
  pub known : slice_get script.structures n ≡ Some form
  pub short : any_length entries < 2 ^ 64
  pub right : IsHistoryOf script form entries
  pub marks : MarksFacilities entries
  pub plays : IsPlayedAt script (record { 0 = n }) form.kind (any_calls entries)

-- of one kind
abbrev IsSameKind : AnyHistory → AnyHistory → Type 0
IsSameKind (AnyHistory.Cache a) (AnyHistory.Cache b) = Unit {0}
IsSameKind (AnyHistory.List a) (AnyHistory.List b) = Unit {0}
IsSameKind (AnyHistory.Lock a) (AnyHistory.Lock b) = Unit {0}
IsSameKind _ _ = ⊥

same_kind : (k : Kind) (one other : AnyHistory) → IsOfKind k one → IsOfKind k other → IsSameKind one other
same_kind k one other of_one of_other = grind arith

any_same : (script : Script) (n : ℕ) (form : StrForm) (one other : AnyHistory) (xs ys : List (List ℕ))
    → AreApart script.connectors → IsRight script n form one → IsRight script n form other → text_of (history_lines
    script n one ++ xs) ≡ text_of (history_lines script n other ++ ys) → (one ≡ other) × (text_of xs ≡ text_of ys)
any_same script n form (AnyHistory.Cache one) (AnyHistory.Cache other) xs ys apart a b e = grind (
  arith,
  same_history altered_caches form AnyAsk.Cache script (record { 0 = n }) (λ a b e. cc) alter_words alter_reply_words n
      one other xs ys apart,
)
any_same script n form (AnyHistory.List one) (AnyHistory.List other) xs ys apart a b e = grind (
  arith,
  same_history queued_lists form AnyAsk.List script (record { 0 = n }) (λ a b e. cc) queue_words queue_reply_words n
      one other xs ys apart,
)
any_same script n form (AnyHistory.Lock one) (AnyHistory.Lock other) xs ys apart a b e = grind (
  arith,
  same_history lock_meaning form AnyAsk.Lock script (record { 0 = n }) (λ a b e. cc) lock_words lock_reply_words n
      one other xs ys apart,
)
any_same script n form one other xs ys apart a b e = absurd (same_kind form.kind one other a.right.kind b.right.kind)

pub histories_same : (script : Script) (one other : List AnyHistory) (xs ys : List (List ℕ))
    → AreApart script.connectors → length one ≡ length other → ((n : ℕ) (entries : AnyHistory) → slice_get
    one n ≡ Some entries → (form : StrForm) × IsRight script n form entries) → ((n : ℕ) (entries : AnyHistory)
    → slice_get other n ≡ Some entries → (form : StrForm) × IsRight script n form entries) → text_of (histories_lines
    script one ++ xs) ≡ text_of (histories_lines script other ++ ys) → (one ≡ other) × (text_of xs ≡ text_of ys)
histories_same script one other xs ys apart = all_same (λ n entries. history_lines script n entries)
    (λ n entries. (form : StrForm) × IsRight script n form entries) (λ n a b xs ys right right' e. any_same script n
    right.0 a b xs ys apart right.1 (grind arith) e) one other xs ys

-- ---- points

pub legal_point : (form : StrForm) (entries : AnyHistory) (at sure : ℕ) (conn : ConnId) (index : ℕ) (bit : Bool)
    → IsAnyLegal form entries → AnyTells form entries at sure conn index bit → at ≤ any_length entries
legal_point form (AnyHistory.Cache entries) at sure conn index bit legal tells =
    any_within form (AnyHistory.Cache entries) legal at tells.point
legal_point form (AnyHistory.List entries) at sure conn index bit legal tells =
    any_within form (AnyHistory.List entries) legal at tells.point
legal_point form (AnyHistory.Lock entries) at sure conn index bit legal tells =
    any_within form (AnyHistory.Lock entries) legal at tells.point
