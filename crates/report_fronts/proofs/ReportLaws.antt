-- What is printed fills the slots of a report, and what fills them is printed.
use Rattle.std.proofs.Common.{◌≡◌, ◌⊎◌, inl, inr, ℕ, zero, suc, ◌+◌, ◌<◌, ◌^◌, List, [], ◌∷◌, ◌++◌, length, map, replicate, codes, Some, slice_get, All, refl, sym, ap, subst, ◌∙◌, arith, lit<, append_assoc, append-nil}
use Rattle.std.specs.Fmt.{decimal}
use Rattle.std.proofs.lemmas.Fmt.{decimal_injective}
use Rattle.std.proofs.lemmas.List.{append_cancel_left}
use Rattle.std.proofs.lemmas.Option.{slice_get_within}
use Rattle.report_texts.specs.CheckModel.RunShown.CfTypes.declared.forms.Kind.{Kind}
use Rattle.report_texts.specs.CheckModel.RunShown.CfTypes.declared.forms.Kind.TheVariants as kind
use Rattle.report_texts.specs.CheckModel.RunShown.CfTypes.declared.forms.StrForm.{StrForm}
use Rattle.report_texts.specs.CheckModel.RunShown.CfTypes.declared.names.Name16.{Name16}
use Rattle.report_texts.specs.CheckModel.RunShown.CfTypes.declared.numbers.StrNo.{StrNo}
use Rattle.report_texts.specs.CheckModel.RunShown.CfTypes.declared.shell_commands.ShellCmd.TheVariants as cmd
use Rattle.report_texts.specs.CheckModel.RunShown.CfTypes.declared.shell_commands.ShellReply.TheVariants as shell
use Rattle.report_texts.specs.CheckModel.RunShown.EngineApi.declared.asks.Ask.{Ask}
use Rattle.report_texts.specs.CheckModel.RunShown.EngineApi.declared.asks.Ask.TheVariants as asked
use Rattle.report_texts.specs.CheckModel.RunShown.EngineApi.declared.asks.Reply.TheVariants as reply
use Rattle.report_texts.specs.CheckModel.RunShown.EngineApi.declared.asks.What.TheVariants as what
use Rattle.report_texts.specs.CheckModel.RunShown.EngineApi.declared.histories.Entry.{Entry}
use Rattle.report_texts.specs.CheckModel.RunShown.PlexScript.declared.asks.AnyHistory.{AnyHistory}
use Rattle.report_texts.specs.CheckModel.RunShown.PlexScript.declared.asks.AnyHistory.TheVariants as history
use Rattle.report_texts.specs.CheckModel.RunShown.PlexScript.declared.scripts.AnyAsk.{AnyAsk}
use Rattle.report_texts.specs.CheckModel.RunShown.PlexScript.declared.scripts.AnyAsk.TheVariants as ask
use Rattle.report_texts.specs.CheckModel.RunShown.PlexScript.declared.scripts.Script.{Script}
use Rattle.report_texts.specs.CheckModel.RunShown.PlexScript.declared.transcripts.AgentEnd.TheVariants as ended
use Rattle.report_texts.specs.CheckModel.RunShown.PlexScript.declared.transcripts.Shown.{Shown}
use Rattle.report_texts.specs.CheckModel.RunShown.PlexScript.declared.transcripts.Shown.TheVariants as shown
use Rattle.report_texts.specs.CheckModel.RunShown.PlexScript.declared.transcripts.Transcript.{Transcript}
use Rattle.report_texts.specs.CheckModel.RunShown.PlexScript.Agent.{shell_ask}
use Rattle.report_texts.specs.CheckModel.RunShown.PlexScript.Causes.{kind_of}
use Rattle.report_texts.specs.CheckModel.RunShown.PlexScript.Heard.{any_length}
use Rattle.report_texts.specs.CheckModel.RunShown.Kinds.{IsOfKind}
use Rattle.report_texts.specs.CheckModel.declared.printed.Printed.{Printed}
use Rattle.report_texts.specs.PlexReport.CommandWords.{alter_words, queue_words, lock_words}
use Rattle.report_texts.specs.PlexReport.Lines.{heading, entry_line, entry_lines, history_lines, shown_line, transcript_lines}
use Rattle.report_texts.specs.PlexReport.Naming.{caller_name, structure_name}
use Rattle.report_texts.specs.PlexReport.PlexPlain.PolicyLines.{facility_line, connector_line}
use Rattle.report_texts.specs.PlexReport.ReplyWords.{alter_reply_words, queue_reply_words, lock_reply_words}
use Rattle.report_texts.specs.PlexReport.Report.{by_number, structures_lines, histories_lines, transcripts_lines, report_lines}
use Rattle.report_lines.specs.Readable.{IsEntry, IsItem}
use Rattle.report_texts.specs.Readable.{AreEntries, AreReadable}
use Rattle.report_texts.specs.ReplyRows.Within.{IsAlterReply, IsQueueReply, IsLockReply}
use Rattle.report_fronts.specs.Grammars.{Every, AreFilled}
use Rattle.report_fronts.specs.Slots.{Slot, PrintsEntry, IsEntryLine, MayFill, Opens, Leads, policy_lines, slots_each, history_slot, transcript_slot, end_slots, caller_slots_from, slots_from, report_slots}
use Rattle.report_fronts.specs.Slots.Slot.{Exactly, Entered, Listed, Headed}
use Rattle.report_fronts.proofs.GrammarLaws.{filled_apart, filled_on}
use Rattle.report_fronts.proofs.SlotLaws.{AreAt, at_each, each_at, all_first, exactly_filled, filled_exactly, filled_each, each_filled, headed_filled, filled_headed, Under}

abbrev pub place : ℕ → StrNo
place x = record { 0 = x }

module _ (script : Script) where
  abbrev kind_at : ℕ → Kind
  kind_at x = kind_of script.structures (place x)

  -- ---- histories

  abbrev pub IsHistoryAt : ℕ → AnyHistory → Type 0
  IsHistoryAt x entries =
      IsOfKind (kind_at x) entries × (any_length entries < 2 ^ 64) × AreEntries script (place x) entries

  abbrev lines_at : ℕ → AnyHistory → List (List ℕ)
  lines_at x entries = history_lines script x entries

  module _ {C R : Type 0} (of : Ask C → AnyAsk) (In : List Name16 → R → Type 0)
      (cmd_words : Script → C → List (List ℕ)) (answer_words : Script → R → List (List ℕ)) where
    entries_fill : (x : ℕ) → ((line : List ℕ) → PrintsEntry of In cmd_words answer_words script (place x) line
        → IsEntryLine script (place x) (kind_at x) line) → (entries : List (Entry C R)) → length entries < 2 ^ 64
        → All (IsEntry of In script (place x)) entries
        → Leads script (history_slot script x ∷ []) (entry_lines cmd_words answer_words script x entries) []
    entries_fill x lifts entries small h = headed_filled script (codes "HISTORY") (structure_name script x)
        (Entered (place x)) (entry_line cmd_words answer_words script) (IsEntry of In script (place x))
        (λ entry is. (lifts (entry_line cmd_words answer_words script entry) (entry, is, refl), refl))
        entries small (inr tt) h

    entries_told : (x : ℕ) → ((line : List ℕ) → IsEntryLine script (place x) (kind_at x) line
        → PrintsEntry of In cmd_words answer_words script (place x) line) → (lines : List (List ℕ))
        → Leads script (history_slot script x ∷ []) lines []
        → Under script (codes "HISTORY") (structure_name script x) (entry_line cmd_words answer_words script)
        (IsEntry of In script (place x)) lines
    entries_told x lowers lines goes = filled_headed script (codes "HISTORY") (structure_name script x)
        (Entered (place x)) (entry_line cmd_words answer_words script) (IsEntry of In script (place x))
        (λ text more opens. let p = lowers text opens.0 in (p.0, p.1, p.2, opens.1)) lines goes

  history_fills : (x : ℕ) (entries : AnyHistory) → IsHistoryAt x entries
      → Leads script (history_slot script x ∷ []) (lines_at x entries) []
  history_fills x entries h = go (kind_at x) refl entries h.0 h.1 h.2
    where
      go : (k : Kind) → kind_of script.structures (place x) ≡ k → (entries : AnyHistory) → IsOfKind k entries
          → any_length entries < 2 ^ 64 → AreEntries script (place x) entries
          → Leads script (history_slot script x ∷ []) (history_lines script x entries) []
      go kind.Cache e (history.Cache entries) is small each =
          entries_fill ask.Cache IsAlterReply alter_words alter_reply_words x
          (λ line p. subst (λ (k : Kind). IsEntryLine script (place x) k line) (sym e) p) entries small each
      go kind.Cache e (history.List entries) is small each = absurd is
      go kind.Cache e (history.Lock entries) is small each = absurd is
      go (kind.List headers locks refs) e (history.Cache entries) is small each = absurd is
      go (kind.List headers locks refs) e (history.List entries) is small each =
          entries_fill ask.List IsQueueReply queue_words queue_reply_words x
          (λ line p. subst (λ (k : Kind). IsEntryLine script (place x) k line) (sym e) p) entries small each
      go (kind.List headers locks refs) e (history.Lock entries) is small each = absurd is
      go kind.Lock e (history.Cache entries) is small each = absurd is
      go kind.Lock e (history.List entries) is small each = absurd is
      go kind.Lock e (history.Lock entries) is small each =
          entries_fill ask.Lock (λ connectors. IsLockReply) lock_words lock_reply_words x
          (λ line p. subst (λ (k : Kind). IsEntryLine script (place x) k line) (sym e) p) entries small each

  history_told : (x : ℕ) (lines : List (List ℕ)) → Leads script (history_slot script x ∷ []) lines []
      → (entries : AnyHistory) × IsHistoryAt x entries × (lines ≡ lines_at x entries)
  history_told x lines goes = go (kind_at x) refl
    where
      is_of : (k : Kind) (entries : AnyHistory) → kind_of script.structures (place x) ≡ k → IsOfKind k entries
          → IsOfKind (kind_of script.structures (place x)) entries
      is_of k entries e is = subst (λ (j : Kind). IsOfKind j entries) (sym e) is

      go : (k : Kind) → kind_of script.structures (place x) ≡ k
          → (entries : AnyHistory) × IsHistoryAt x entries × (lines ≡ history_lines script x entries)
      go kind.Cache e =
          let u = entries_told ask.Cache IsAlterReply alter_words alter_reply_words x
          (λ line p. subst (λ (k : Kind). IsEntryLine script (place x) k line) e p) lines goes in
          (history.Cache u.xs, (is_of kind.Cache (history.Cache u.xs) e tt, u.small, u.each), u.is)
      go (kind.List headers locks refs) e =
          let u = entries_told ask.List IsQueueReply queue_words queue_reply_words x
          (λ line p. subst (λ (k : Kind). IsEntryLine script (place x) k line) e p) lines goes in
          (history.List u.xs, (is_of (kind.List headers locks refs) (history.List u.xs) e tt, u.small, u.each), u.is)
      go kind.Lock e =
          let u = entries_told ask.Lock (λ connectors. IsLockReply) lock_words lock_reply_words x
          (λ line p. subst (λ (k : Kind). IsEntryLine script (place x) k line) e p) lines goes in
          (history.Lock u.xs, (is_of kind.Lock (history.Lock u.xs) e tt, u.small, u.each), u.is)

  -- ---- transcripts

  abbrev pub IsTranscriptAt : ℕ → Transcript → Type 0
  IsTranscriptAt c transcript =
      (transcript.end ≡ ended.Done) × (length transcript.items < 2 ^ 64) × All (IsItem script) transcript.items

  abbrev said_at : ℕ → Transcript → List (List ℕ)
  said_at c transcript = transcript_lines script c transcript

  has_place : (item : Shown) → IsItem script item → 0 < length script.structures
  has_place (shown.Call on number) h = omega (arith, h.0)
  has_place (shown.Test on index bit at) h = omega (arith, h.0)
  has_place (shown.Word on word bits at) h = omega (arith, h.0)
  has_place (shown.BadIndex on index word len) h = omega (arith, h.0)
  has_place (shown.Posted on sure) h = omega (arith, h.0)
  has_place (shown.Took on sure) h = omega (arith, h.0)

  may_list : (items : List Shown) → All (IsItem script) items → (items ≡ []) ⊎ (0 < length script.structures)
  may_list [] h = inl refl
  may_list (item ∷ items) h = inr (has_place item (all_first (IsItem script) item items h))

  transcript_fills : (c : ℕ) (transcript : Transcript) → IsTranscriptAt c transcript
      → Leads script (transcript_slot script c ∷ []) (said_at c transcript) []
  transcript_fills c transcript h = headed_filled script (codes "TRANSCRIPT") (caller_name script c) Listed
      (shown_line script) (IsItem script) (λ item is. ((item, is, refl), refl)) transcript.items h.1
      (may_list transcript.items h.2) h.2

  transcript_told : (c : ℕ) (lines : List (List ℕ)) → Leads script (transcript_slot script c ∷ []) lines []
      → (transcript : Transcript) × IsTranscriptAt c transcript × (lines ≡ said_at c transcript)
  transcript_told c lines goes =
      let u = filled_headed script (codes "TRANSCRIPT") (caller_name script c) Listed (shown_line script)
      (IsItem script) (λ text more opens. (opens.0.0, opens.0.1, opens.0.2, opens.1)) lines goes in
      (record { items = u.xs; end = ended.Done }, (refl, u.small, u.each), u.is)

  -- ---- the whole

  abbrev these : Printed → List (List ℕ)
  these printed = report_lines script printed.histories printed.transcripts

  grouped : (a b c d : List (List ℕ)) → (a ++ (b ++ c)) ++ d ≡ a ++ (b ++ (c ++ d))
  grouped a b c d = append_assoc a (b ++ c) d ∙ ap (λ (l : List (List ℕ)). a ++ l) (append_assoc b c d)

  abbrev behind_policy : Printed → List (List ℕ)
  behind_policy printed = histories_lines script printed.histories
      ++ (transcripts_lines script printed.transcripts ++ codes "END" ∷ [])

  by_parts : (printed : Printed) → these printed ≡ policy_lines script ++ behind_policy printed
  by_parts printed = sym (grouped (map facility_line (by_number script.facilities)) (structures_lines script)
      (map connector_line script.connectors) (behind_policy printed))

  some_form : (xs : List StrForm) (n : ℕ) → n < length xs → (form : StrForm) × (slice_get xs n ≡ Some form)
  some_form [] n low = absurd (omega (arith, low))
  some_form (form ∷ xs) zero low = (form, refl)
  some_form (form ∷ xs) (suc n) low = some_form xs n (omega (arith, low))

  of_kind : (printed : Printed) → AreReadable script printed → (x : ℕ) (entries : AnyHistory)
      → slice_get printed.histories x ≡ Some entries → IsOfKind (kind_at x) entries
  of_kind printed h x entries e =
      let low = slice_get_within printed.histories x entries e in
      let form = some_form script.structures x (subst (λ (n : ℕ). x < n) h.structures low) in
      subst (λ (k : Kind). IsOfKind k entries) (known x form.0 form.1) (h.kinds x form.0 entries form.1 e)
    where
      known : (x : ℕ) (form : StrForm) → slice_get script.structures x ≡ Some form
          → form.kind ≡ kind_of script.structures (place x)
      known x form e = rw e refl

  pub report_fills : (printed : Printed) → AreReadable script printed
      → Leads script (report_slots script) (these printed) []
  report_fills printed h =
      let histories : AreAt IsHistoryAt 0 printed.histories = at_each IsHistoryAt printed.histories
      (λ k entries e. (of_kind printed h k entries e, h.counts k entries e, h.entries k entries e)) in
      let transcripts : AreAt IsTranscriptAt 0 printed.transcripts = at_each IsTranscriptAt printed.transcripts
      (λ k transcript e. (h.done k transcript e, h.item_counts k transcript e, h.items k transcript e)) in
      let first = filled_each script (history_slot script) lines_at IsHistoryAt history_fills 0 printed.histories
      histories in
      let second = filled_each script (transcript_slot script) said_at IsTranscriptAt transcript_fills 0
      printed.transcripts transcripts in
      let last : Leads script end_slots (codes "END" ∷ []) [] = exactly_filled script (codes "END" ∷ []) in
      let ends = filled_on (Opens script) (slots_each (transcript_slot script) (length printed.transcripts) 0)
      end_slots (transcripts_lines script printed.transcripts) (codes "END" ∷ []) second last in
      let calls : Leads script (caller_slots_from script (length script.connectors + 1) 0)
      (transcripts_lines script printed.transcripts ++ codes "END" ∷ []) [] =
      subst (λ (n : ℕ). Leads script (caller_slots_from script n 0)
      (transcripts_lines script printed.transcripts ++ codes "END" ∷ []) []) h.callers ends in
      let more = filled_on (Opens script) (slots_each (history_slot script) (length printed.histories) 0)
      (caller_slots_from script (length script.connectors + 1) 0) (histories_lines script printed.histories)
      (transcripts_lines script printed.transcripts ++ codes "END" ∷ []) first calls in
      let behind : Leads script (slots_from script (length script.structures) 0) (behind_policy printed) [] =
      subst (λ (n : ℕ). Leads script (slots_from script n 0) (behind_policy printed) []) h.structures more in
      subst (λ (l : List (List ℕ)). Leads script (report_slots script) l []) (sym (by_parts printed))
      (filled_on (Opens script) (map (λ line. Exactly line) (policy_lines script))
      (slots_from script (length script.structures) 0) (policy_lines script) (behind_policy printed)
      (exactly_filled script (policy_lines script)) behind)

  pub record Reads (lines : List (List ℕ)) : Type 0 where
    pub printed : Printed
    pub readable : AreReadable script printed
    pub is : these printed ≡ lines

  readable_of : (histories : List AnyHistory) (transcripts : List Transcript)
      → length histories ≡ length script.structures → AreAt IsHistoryAt 0 histories
      → length transcripts ≡ length script.connectors + 1 → AreAt IsTranscriptAt 0 transcripts
      → AreReadable script (record { histories = histories; transcripts = transcripts })
  readable_of histories transcripts long hs long' ts =
      let at : (x : ℕ) (entries : AnyHistory) → slice_get histories x ≡ Some entries → IsHistoryAt x entries =
      each_at IsHistoryAt histories hs in
      let by : (c : ℕ) (transcript : Transcript) → slice_get transcripts c ≡ Some transcript
      → IsTranscriptAt c transcript = each_at IsTranscriptAt transcripts ts in
      record {
        structures = long;
        kinds = λ x form entries known e. of_form x form entries known (at x entries e).0;
        counts = λ x entries e. (at x entries e).1;
        entries = λ x entries e. (at x entries e).2;
        callers = long';
        done = λ c transcript e. (by c transcript e).0;
        item_counts = λ c transcript e. (by c transcript e).1;
        items = λ c transcript e. (by c transcript e).2;
      }
    where
      of_form : (x : ℕ) (form : StrForm) (entries : AnyHistory) → slice_get script.structures x ≡ Some form
          → IsOfKind (kind_of script.structures (place x)) entries → IsOfKind form.kind entries
      of_form x form entries known is = subst (λ (k : Kind). IsOfKind k entries) (same x form known) is
        where
          same : (x : ℕ) (form : StrForm) → slice_get script.structures x ≡ Some form
              → kind_of script.structures (place x) ≡ form.kind
          same x form e = rw e refl

  pub report_told : (lines : List (List ℕ)) → Leads script (report_slots script) lines [] → Reads lines
  report_told lines goes =
      let policy = filled_apart (Opens script) (map (λ line. Exactly line) (policy_lines script))
      (slots_from script (length script.structures) 0) lines goes in
      let front = filled_exactly script (policy_lines script) policy.mine policy.first in
      let first = filled_apart (Opens script) (slots_each (history_slot script) (length script.structures) 0)
      (caller_slots_from script (length script.connectors + 1) 0) policy.others policy.then in
      let second = filled_apart (Opens script)
      (slots_each (transcript_slot script) (length script.connectors + 1) 0) end_slots first.others first.then in
      let last = filled_exactly script (codes "END" ∷ []) second.others second.then in
      let hs = each_filled script (history_slot script) lines_at IsHistoryAt (length script.structures)
      (λ i ls low. history_told i ls) (length script.structures) 0 (omega arith) first.mine first.first in
      let ts = each_filled script (transcript_slot script) said_at IsTranscriptAt (length script.connectors + 1)
      (λ i ls low. transcript_told i ls) (length script.connectors + 1) 0 (omega arith) second.mine second.first in
      let printed : Printed = record { histories = hs.xs; transcripts = ts.xs } in
      record {
        printed = printed;
        readable = readable_of hs.xs ts.xs hs.long hs.each ts.long ts.each;
        is = by_parts printed ∙ same policy.mine first.mine second.mine (policy_lines script)
            (histories_lines script hs.xs) (transcripts_lines script ts.xs) second.others first.others policy.others
            lines front hs.is ts.is last second.is first.is policy.is;
      }
    where
      same : (a b c a' b' c' end cd bcd lines : List (List ℕ)) → a ≡ a' → b ≡ b' → c ≡ c' → end ≡ codes "END" ∷ []
          → cd ≡ c ++ end → bcd ≡ b ++ cd → lines ≡ a ++ bcd → a' ++ (b' ++ (c' ++ codes "END" ∷ [])) ≡ lines
      same a b c a' b' c' end cd bcd lines e f g h i j k = cc

  -- ---- in one way

  pub heading_same : (word name : List ℕ) (m n : ℕ) → m < 2 ^ 64 → n < 2 ^ 64
      → heading word name m ≡ heading word name n → m ≡ n
  heading_same word name m n small small' e =
      let behind = append_cancel_left word _ _ e in
      let more : 32 ∷ decimal m ++ [] ≡ 32 ∷ decimal n ++ [] = append_cancel_left (32 ∷ name) _ _ behind in
      let digits : decimal m ++ [] ≡ decimal n ++ [] = cc in
      decimal_injective m n small small' (sym (append-nil (decimal m)) ∙ (digits ∙ append-nil (decimal n)))

  pub opens_one : (slot : Slot) (line : List ℕ) (a b : List Slot) → Opens script slot line a
      → Opens script slot line b → a ≡ b
  opens_one (Exactly wanted) line a b x y = x.1 ∙ sym y.1
  opens_one (Entered on) line a b x y = x.1 ∙ sym y.1
  opens_one Listed line a b x y = x.1 ∙ sym y.1
  opens_one (Headed word name slot) line a b x y =
      let same = heading_same word name x.0 y.0 x.1 y.1 (sym x.3 ∙ y.3) in
      x.4 ∙ (ap (λ (n : ℕ). replicate n slot) same ∙ sym y.4)

  -- ---- to the end

  every_many : (slot : Slot) (n : ℕ) → MayFill script slot → Every (MayFill script) (replicate n slot)
  every_many slot zero may = tt
  every_many slot (suc n) may = (may, every_many slot n may)

  pub opens_may : (slot : Slot) (line : List ℕ) (more : List Slot) → MayFill script slot
      → Opens script slot line more → Every (MayFill script) more
  opens_may (Exactly wanted) line more may x = subst (Every (MayFill script)) (sym x.1) tt
  opens_may (Entered on) line more may x = subst (Every (MayFill script)) (sym x.1) tt
  opens_may Listed line more may x = subst (Every (MayFill script)) (sym x.1) tt
  opens_may (Headed word name slot) line more may x = elim x.2 [
    | inl none ↦ subst (Every (MayFill script)) (sym (x.4 ∙ ap (λ (n : ℕ). replicate n slot) none)) tt
    | inr fills ↦ subst (Every (MayFill script)) (sym x.4) (every_many slot x.0 fills)
  ]

  -- the operator's answer to a stage, with any number, fills any history
  abbrev filler : {C R : Type 0} → Entry C R
  filler = record {
    no = 0;
    by = record { 0 = 0 };
    what = what.Call (asked.Shell cmd.Next);
    reply = reply.Shell shell.Ok;
  }

  filler_is : {C R : Type 0} (of : Ask C → AnyAsk) (In : List Name16 → R → Type 0) (on : StrNo)
      → of (asked.Shell cmd.Next) ≡ shell_ask (kind_of script.structures on) cmd.Next
      → IsEntry of In script on filler
  filler_is of In on e = (lit< tt, (omega arith, (codes "NEXT", inr (refl, refl, e)), tt))

  filler_line : (on : StrNo) → (line : List ℕ) × IsEntryLine script on (kind_of script.structures on) line
  filler_line on = go (kind_of script.structures on) refl
    where
      go : (k : Kind) → kind_of script.structures on ≡ k → (line : List ℕ) × IsEntryLine script on k line
      go kind.Cache e = (
        _,
        (
          filler,
          filler_is ask.Cache IsAlterReply on
              (sym (ap (λ (k : Kind). shell_ask k cmd.Next) e)),
          refl,
        ),
      )
      go (kind.List headers locks refs) e = (
        _,
        (
          filler,
          filler_is ask.List IsQueueReply on
              (sym (ap (λ (k : Kind). shell_ask k cmd.Next) e)),
          refl,
        ),
      )
      go kind.Lock e = (
        _,
        (
          filler,
          filler_is ask.Lock (λ connectors. IsLockReply) on
              (sym (ap (λ (k : Kind). shell_ask k cmd.Next) e)),
          refl,
        ),
      )

  pub may_fill : (slot : Slot) → MayFill script slot → AreFilled (Opens script) (slot ∷ [])
  may_fill (Exactly wanted) may = (wanted ∷ [], ([], ([], (refl, refl), refl), refl))
  may_fill (Entered on) may = let line = filler_line on in (line.0 ∷ [], ([], ([], (line.1, refl), refl), refl))
  may_fill Listed may =
      let item : Shown = shown.Call (place 0) 0 in
      (shown_line script item ∷ [], ([], ([], ((item, (may, lit< tt), refl), refl), refl), refl))
  may_fill (Headed word name slot) may =
      (heading word name 0 ∷ [], ([], ([], (0, lit< tt, inl refl, refl, refl), refl), refl))

  exactly_may : (lines : List (List ℕ)) → Every (MayFill script) (map (λ line. Exactly line) lines)
  exactly_may [] = tt
  exactly_may (line ∷ lines) = (tt, exactly_may lines)

  headed_may : (slot : ℕ → Slot) → ((n : ℕ) → MayFill script (slot n)) → (n first : ℕ)
      → Every (MayFill script) (slots_each slot n first)
  headed_may slot may zero first = tt
  headed_may slot may (suc n) first = (may first, headed_may slot may n (first + 1))

  every_both : (xs ys : List Slot) → Every (MayFill script) xs → Every (MayFill script) ys
      → Every (MayFill script) (xs ++ ys)
  every_both [] ys h k = k
  every_both (x ∷ xs) ys h k = (h.0, every_both xs ys h.1 k)

  pub report_may : Every (MayFill script) (report_slots script)
  report_may = every_both (map (λ line. Exactly line) (policy_lines script))
      (slots_from script (length script.structures) 0) (exactly_may (policy_lines script))
      (every_both (slots_each (history_slot script) (length script.structures) 0)
      (caller_slots_from script (length script.connectors + 1) 0)
      (headed_may (history_slot script) (λ n. tt) (length script.structures) 0)
      (every_both (slots_each (transcript_slot script) (length script.connectors + 1) 0) end_slots
      (headed_may (transcript_slot script) (λ n. tt) (length script.connectors + 1) 0) (tt, tt)))
