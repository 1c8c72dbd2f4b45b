-- A text is the report of one reading whose entries are meant so.
use Rattle.std.proofs.Common.{◌≡◌, ℕ, zero, suc, ◌+◌, ◌<◌, ◌^◌, List, [], ◌∷◌, ◌++◌, length, map, codes, slice_get, Some, All, decimal, refl, sym, ap, subst, ◌∙◌, arith, append_assoc, append-nil}
use Rattle.std.proofs.lemmas.Fmt.{decimal_injective}
use Rattle.std.proofs.lemmas.List.{append_cancel_left}
use Rattle.cf_types.specs.declared.forms.Kind.{Kind}
use Rattle.cf_types.specs.declared.forms.StrForm.{StrForm}
use Rattle.cf_types.specs.declared.names.Name16.{Name16}
use Rattle.cf_types.specs.declared.numbers.StrNo.{StrNo}
use Rattle.engine_api.specs.declared.asks.Ask.{Ask}
use Rattle.engine_api.specs.declared.histories.Entry.{Entry}
use Rattle.plex_script.specs.declared.asks.AnyHistory.{AnyHistory}
use Rattle.plex_script.specs.declared.asks.AnyHistory.TheVariants as history
use Rattle.plex_script.specs.declared.scripts.AnyAsk.{AnyAsk}
use Rattle.plex_script.specs.declared.scripts.Script.{Script}
use Rattle.plex_script.specs.declared.transcripts.AgentEnd.{AgentEnd}
use Rattle.plex_script.specs.declared.transcripts.AgentEnd.TheVariants as ended
use Rattle.plex_script.specs.declared.transcripts.Shown.{Shown}
use Rattle.plex_script.specs.declared.transcripts.Transcript.{Transcript}
use Rattle.plex_script.specs.Limits.{KeepsLimits}
use Rattle.plex_report.specs.CommandWords.{alter_words, queue_words, lock_words}
use Rattle.plex_report.specs.Lines.{heading, entry_line, shown_line, entry_lines, history_lines, transcript_lines}
use Rattle.plex_report.specs.Naming.{structure_name, caller_name}
use Rattle.plex_report.specs.ReplyWords.{alter_reply_words, queue_reply_words, lock_reply_words}
use Rattle.plex_report.specs.Report.{lines_each, report_lines, by_number, structures_lines, histories_lines, transcripts_lines}
use Rattle.plex_plain.specs.PolicyLines.{facility_line, connector_line}
use Rattle.reply_rows.specs.Answers.{Answers}
use Rattle.reply_rows.specs.Contents.{alter_answers, queue_answers, lock_answers}
use Rattle.reply_rows.specs.Within.{IsAlterReply, IsQueueReply}
use Rattle.report_lines.specs.Kinds.{IsKind}
use Rattle.report_lines.specs.Picked.{IsPicked}
use Rattle.report_lines.specs.Readable.{IsEntry, IsItem}
use Rattle.report_lines.proofs.KindLaws.{of_cache, of_list, of_lock, is-cache, is-list, is-lock, AreLockReplies}
use Rattle.report_lines.proofs.ItemLaws.{item_one}
use Rattle.report_lines.proofs.OneLaws.{one_entry}
use Rattle.check_model.specs.declared.printed.Printed.{Printed}
use Rattle.report_texts.specs.CheckModel.RunShown.Kinds.{IsOfKind}
use Rattle.report_texts.specs.CheckModel.RunShown.PlexScript.Heard.{any_length}
use Rattle.report_texts.specs.Readable.{AreEntries, AreReadable}
use Rattle.report_texts.specs.Texts.{IsReport}
use Rattle.report_fronts.specs.Cuts.{AreFree}
use Rattle.report_fronts.proofs.CutLaws.{text_of, begins}
use Rattle.report_read.specs.Picked.{ArePickedEntries, ArePicked}
use Rattle.report_read.proofs.EntryLaws.{frees}

abbrev Lines : Type 0
Lines = List (List ℕ)

-- ---- texts are one where their lines are

no_lines : (lines : Lines) → [] ≡ text_of lines → lines ≡ []
no_lines [] e = refl
no_lines ([] ∷ lines) e = absurd (cc)
no_lines ((b ∷ line) ∷ lines) e = absurd (cc)

same_lines : (one other : Lines) → AreFree one → AreFree other → text_of one ≡ text_of other → one ≡ other
same_lines one other free free' e =
    let b = begins one other [] free free' (sym e ∙ sym (append-nil (text_of one))) in
    sym (b.is ∙ ap (λ (ls : Lines). one ++ ls) (no_lines b.behind b.text) ∙ append-nil one)

-- ---- so many lines of elements

module _ {X : Type 0} (line : X → List ℕ) (P : X → Type 0)
    (fixes : (a b : X) → P a → P b → line a ≡ line b → a ≡ b) where
  many_same : (xs ys : List X) (us vs : Lines) → length xs ≡ length ys → All P xs → All P ys
      → map line xs ++ us ≡ map line ys ++ vs → (xs ≡ ys) × (us ≡ vs)
  many_same [] [] us vs long h k e = (refl, e)
  many_same [] (y ∷ ys) us vs long h k e = absurd (omega (arith, long))
  many_same (x ∷ xs) [] us vs long h k e = absurd (omega (arith, long))
  many_same (x ∷ xs) (y ∷ ys) us vs long h k e =
      let first : line x ≡ line y = cc in
      let rest : map line xs ++ us ≡ map line ys ++ vs = cc in
      let here = fixes x y (h 0 x (omega arith)) (k 0 y (omega arith)) first in
      let more = many_same xs ys us vs (omega (arith, long)) (λ j d low. h (suc j) d (omega (arith, low)))
      (λ j d low. k (suc j) d (omega (arith, low))) rest in
      (ap (λ (z : X). z ∷ xs) here ∙ ap (λ (zs : List X). y ∷ zs) more.0, more.1)

-- ---- a heading, and what it tells of

heading_same : (word name : List ℕ) (m n : ℕ) → m < 2 ^ 64 → n < 2 ^ 64 → heading word name m ≡ heading word name n
    → m ≡ n
heading_same word name m n small small' e =
    let first = append_cancel_left
    word ((32 ∷ name) ++ ((32 ∷ decimal m) ++ [])) ((32 ∷ name) ++ ((32 ∷ decimal n) ++ [])) e in
    let second = append_cancel_left (32 ∷ name) ((32 ∷ decimal m) ++ []) ((32 ∷ decimal n) ++ []) first in
    let third = append_cancel_left (32 ∷ []) (decimal m ++ []) (decimal n ++ []) second in
    decimal_injective m n small small' (sym (append-nil (decimal m)) ∙ third ∙ append-nil (decimal n))

module _ {X : Type 0} (word name : List ℕ) (line : X → List ℕ) (P : X → Type 0)
    (fixes : (a b : X) → P a → P b → line a ≡ line b → a ≡ b) where
  block_same : (xs ys : List X) (us vs : Lines) → length xs < 2 ^ 64 → length ys < 2 ^ 64 → All P xs → All P ys
      → (heading word name (length xs) ∷ map line xs) ++ us ≡ (heading word name (length ys) ∷ map line ys) ++ vs
      → (xs ≡ ys) × (us ≡ vs)
  block_same xs ys us vs small small' h k e =
      let first : heading word name (length xs) ≡ heading word name (length ys) = cc in
      let rest : map line xs ++ us ≡ map line ys ++ vs = cc in
      many_same line P fixes xs ys us vs (heading_same word name (length xs) (length ys) small small' first) h k rest

-- ---- a block for each of so many elements

module _ {X : Type 0} (lines : ℕ → X → Lines) (P : ℕ → X → Type 0) (fixes : (n : ℕ) (a b : X) (us vs : Lines)
    → P n a → P n b → lines n a ++ us ≡ lines n b ++ vs → (a ≡ b) × (us ≡ vs)) where
  abbrev AreRight : ℕ → List X → Type 0
  AreRight n xs = (k : ℕ) (x : X) → slice_get xs k ≡ Some x → P (n + k) x

  right_rest : (n : ℕ) (x : X) (xs : List X) → AreRight n (x ∷ xs) → AreRight (n + 1) xs
  right_rest n x xs h = λ k y e. subst (λ (j : ℕ). P j y) (over n k) (h (suc k) y e)
    where
      over : (n k : ℕ) → n + suc k ≡ n + 1 + k
      over n k = omega arith

  right_first : (n : ℕ) (x : X) (xs : List X) → AreRight n (x ∷ xs) → P n x
  right_first n x xs h = subst (λ (j : ℕ). P j x) (none n) (h 0 x refl)
    where
      none : (n : ℕ) → n + 0 ≡ n
      none n = omega arith

  each_same : (n : ℕ) (xs ys : List X) (us vs : Lines) → length xs ≡ length ys → AreRight n xs → AreRight n ys
      → lines_each lines n xs ++ us ≡ lines_each lines n ys ++ vs → (xs ≡ ys) × (us ≡ vs)
  each_same n [] [] us vs long h k e = (refl, e)
  each_same n [] (y ∷ ys) us vs long h k e = absurd (omega (arith, long))
  each_same n (x ∷ xs) [] us vs long h k e = absurd (omega (arith, long))
  each_same n (x ∷ xs) (y ∷ ys) us vs long h k e =
      let apart : lines n x ++ (lines_each lines (n + 1) xs ++ us) ≡ lines n y ++ (lines_each lines (n + 1) ys ++ vs) =
      sym (append_assoc (lines n x) (lines_each lines (n + 1) xs) us) ∙ e
      ∙ append_assoc (lines n y) (lines_each lines (n + 1) ys) vs in
      let first = fixes n x y (lines_each lines (n + 1) xs ++ us) (lines_each lines (n + 1) ys ++ vs)
      (right_first n x xs h) (right_first n y ys k) apart in
      let rest =
      each_same (n + 1) xs ys us vs (omega (arith, long)) (right_rest n x xs h) (right_rest n y ys k) first.1 in
      (ap (λ (z : X). z ∷ xs) first.0 ∙ ap (λ (zs : List X). y ∷ zs) rest.0, rest.1)

  pub all_same : (xs ys : List X) (us vs : Lines) → length xs ≡ length ys
      → ((k : ℕ) (x : X) → slice_get xs k ≡ Some x → P k x) → ((k : ℕ) (x : X) → slice_get ys k ≡ Some x → P k x)
      → lines_each lines 0 xs ++ us ≡ lines_each lines 0 ys ++ vs → (xs ≡ ys) × (us ≡ vs)
  all_same xs ys us vs long h k e = each_same 0 xs ys us vs long (λ j x there. subst (λ (i : ℕ). P i x)
      (start j) (h j x there)) (λ j x there. subst (λ (i : ℕ). P i x) (start j) (k j x there)) e
    where
      start : (j : ℕ) → j ≡ 0 + j
      start j = omega arith

-- ---- histories

module _ (script : Script) (keeps : KeepsLimits script) where
  module _ {C R : Type 0} (of : Ask C → AnyAsk) (cmd_words : Script → C → Lines) (answer_words : Script → R → Lines)
      (answers : List Name16 → Answers R) (In : List Name16 → R → Type 0)
      (is : IsKind of cmd_words answer_words answers In) (x : ℕ) where
    abbrev on : StrNo
    on = record { 0 = x }

    abbrev Fits : Entry C R → Type 0
    Fits entry = IsEntry of In script on entry × IsPicked of answer_words answers script on entry

    both : (entries : List (Entry C R)) → All (IsEntry of In script on) entries
        → All (IsPicked of answer_words answers script on) entries → All Fits entries
    both entries h p = λ j d low. (h j d low, p j d low)

    entries_same : (one other : List (Entry C R)) (us vs : Lines) → length one < 2 ^ 64 → length other < 2 ^ 64
        → All (IsEntry of In script on) one → All (IsEntry of In script on) other
        → All (IsPicked of answer_words answers script on) one → All (IsPicked of answer_words answers script on) other
        → entry_lines cmd_words answer_words script x one ++ us
        ≡ entry_lines cmd_words answer_words script x other ++ vs → (one ≡ other) × (us ≡ vs)
    entries_same one other us vs small small' h k p q e = block_same (codes "HISTORY") (structure_name script x)
        (entry_line cmd_words answer_words script) Fits (λ a b f g same. one_entry of cmd_words answer_words answers
        In is script on keeps a b f.0 g.0 f.1 g.1 same) one other us vs small small' (both one h p) (both other k q) e

  -- a history of this structure whose entries are meant so
  pub record IsRight (x : ℕ) (entries : AnyHistory) : Type 0 where
    pub form : StrForm
    pub known : slice_get script.structures x ≡ Some form
    pub of_kind : IsOfKind form.kind entries
    pub count : any_length entries < 2 ^ 64
    pub each : AreEntries script (record { 0 = x }) entries
    pub picked : ArePickedEntries script (record { 0 = x }) entries

  abbrev IsSameKind : AnyHistory → AnyHistory → Type 0
  IsSameKind (history.Cache a) (history.Cache b) = Unit {0}
  IsSameKind (history.List a) (history.List b) = Unit {0}
  IsSameKind (history.Lock a) (history.Lock b) = Unit {0}
  IsSameKind _ _ = ⊥

  same_kind : (k : Kind) (one other : AnyHistory) → IsOfKind k one → IsOfKind k other → IsSameKind one other
  same_kind k one other of_one of_other = grind arith

  same_form : (x : ℕ) (one other : AnyHistory) → IsRight x one → IsRight x other → IsSameKind one other
  same_form x one other a b =
      let both : Some a.form ≡ Some b.form = sym a.known ∙ b.known in
      let same : a.form ≡ b.form = cc in
      same_kind b.form.kind one other (subst (λ (f : StrForm). IsOfKind f.kind one) same a.of_kind) b.of_kind

  history_same : (x : ℕ) (one other : AnyHistory) (us vs : Lines) → IsRight x one → IsRight x other
      → history_lines script x one ++ us ≡ history_lines script x other ++ vs → (one ≡ other) × (us ≡ vs)
  history_same x (history.Cache one) (history.Cache other) us vs a b e =
      let s = entries_same of_cache alter_words alter_reply_words alter_answers IsAlterReply is-cache x one other us vs
      a.count b.count a.each b.each a.picked b.picked e in
      (ap (λ (l : _). history.Cache l) s.0, s.1)
  history_same x (history.List one) (history.List other) us vs a b e =
      let s = entries_same of_list queue_words queue_reply_words queue_answers IsQueueReply is-list x one other us vs
      a.count b.count a.each b.each a.picked b.picked e in
      (ap (λ (l : _). history.List l) s.0, s.1)
  history_same x (history.Lock one) (history.Lock other) us vs a b e =
      let s = entries_same of_lock lock_words lock_reply_words lock_answers AreLockReplies is-lock x one other us vs
      a.count b.count a.each b.each a.picked b.picked e in
      (ap (λ (l : _). history.Lock l) s.0, s.1)
  history_same x one other us vs a b e = absurd (same_form x one other a b)

  -- ---- transcripts

  pub record IsToldRight (c : ℕ) (transcript : Transcript) : Type 0 where
    pub done : transcript.end ≡ ended.Done
    pub count : length transcript.items < 2 ^ 64
    pub each : All (IsItem script) transcript.items

  same_transcript : (one other : Transcript) → one.items ≡ other.items → one.end ≡ other.end → one ≡ other
  same_transcript one other e f = fields one.items other.items one.end other.end e f
    where
      fields : (a b : List Shown) (c d : AgentEnd) → a ≡ b → c ≡ d → (let x : Transcript =
          record { items = a; end = c } in x) ≡ (let y : Transcript = record { items = b; end = d } in y)
      fields a b c d e f = cc

  transcript_same : (c : ℕ) (one other : Transcript) (us vs : Lines) → IsToldRight c one → IsToldRight c other
      → transcript_lines script c one ++ us ≡ transcript_lines script c other ++ vs → (one ≡ other) × (us ≡ vs)
  transcript_same c one other us vs a b e =
      let s = block_same (codes "TRANSCRIPT") (caller_name script c)
      (shown_line script) (IsItem script) (λ x y f g same. item_one script keeps x y f g same)
      one.items other.items us vs a.count b.count a.each b.each e in
      (same_transcript one other s.0 (a.done ∙ sym b.done), s.1)

  -- ---- the whole

  history_right : (printed : Printed) → AreReadable script printed → ArePicked script printed → (x : ℕ)
      (entries : AnyHistory) → slice_get printed.histories x ≡ Some entries → IsRight x entries
  history_right printed h p x entries there =
      let found = form_at script.structures printed.histories x entries h.structures there in
      record {
        form = found.0;
        known = found.1;
        of_kind = h.kinds x found.0 entries found.1 there;
        count = h.counts x entries there;
        each = h.entries x entries there;
        picked = p x entries there;
      }
    where
      form_at : {X Y : Type 0} (xs : List X) (ys : List Y) (k : ℕ) (y : Y) → length ys ≡ length xs
          → slice_get ys k ≡ Some y → (x : X) × (slice_get xs k ≡ Some x)
      form_at xs [] k y long e = absurd (cc)
      form_at [] (y' ∷ ys) k y long e = absurd (omega (arith, long))
      form_at (x ∷ xs) (y' ∷ ys) zero y long e = (x, refl)
      form_at (x ∷ xs) (y' ∷ ys) (suc k) y long e = form_at xs ys k y (omega (arith, long)) e

  transcript_right : (printed : Printed) → AreReadable script printed → (c : ℕ) (transcript : Transcript)
      → slice_get printed.transcripts c ≡ Some transcript → IsToldRight c transcript
  transcript_right printed h c transcript there = record {
    done = h.done c transcript there;
    count = h.item_counts c transcript there;
    each = h.items c transcript there;
  }

  same_printed : (one other : Printed) → one.histories ≡ other.histories → one.transcripts ≡ other.transcripts
      → one ≡ other
  same_printed one other e f = fields one.histories other.histories one.transcripts other.transcripts e f
    where
      fields : (a b : List AnyHistory) (c d : List Transcript) → a ≡ b → c ≡ d → (let x : Printed = record {
        histories = a;
        transcripts = c;
      } in x) ≡ (let y : Printed = record { histories = b; transcripts = d } in y)
      fields a b c d e f = cc

  pub one_report : (text : List ℕ) (one other : Printed) → IsReport script text one → ArePicked script one
      → IsReport script text other → ArePicked script other → one ≡ other
  one_report text one other h p k q =
      let lines = same_lines (report_lines script one.histories one.transcripts) (report_lines script other.histories
      other.transcripts) (frees script keeps one h.0) (frees script keeps other k.0) (sym h.1 ∙ k.1) in
      let end : Lines = codes "END" ∷ [] in
      let told : Printed → Lines = λ printed. transcripts_lines script printed.transcripts ++ end in
      let a = append_cancel_left (map facility_line (by_number script.facilities)) _ _ lines in
      let b = append_cancel_left (structures_lines script) _ _ a in
      let c = append_cancel_left (map connector_line script.connectors)
      (histories_lines script one.histories ++ told one) (histories_lines script other.histories ++ told other) b in
      let x = all_same (λ i entries. history_lines script i entries) IsRight history_same
      one.histories other.histories (told one) (told other)
      (h.0.structures ∙ sym k.0.structures) (history_right one h.0 p) (history_right other k.0 q) c in
      let y = all_same (λ i transcript. transcript_lines script i transcript) IsToldRight
      transcript_same one.transcripts other.transcripts end
      end (h.0.callers ∙ sym k.0.callers) (transcript_right one h.0) (transcript_right other k.0) x.1 in
      same_printed one other x.0 y.0
