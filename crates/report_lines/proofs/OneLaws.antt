-- A line is that of one entry which is meant so.
use Rattle.std.proofs.Common.{◌≡◌, ℕ, ◌≤◌, ◌<◌, ◌^◌, Bool, true, false, List, [], ◌∷◌, ◌++◌, Some, length, codes, decimal, refl, sym, ap, ◌∙◌, subst}
use Rattle.std.proofs.lemmas.Bool.{false≢true}
use Rattle.std.proofs.lemmas.List.{append-nil}
use Rattle.std.specs.List.{list_all}
use Rattle.cf_types.specs.declared.names.Name16.{Name16}
use Rattle.cf_types.specs.declared.numbers.ConnId.{ConnId}
use Rattle.cf_types.specs.declared.numbers.StrNo.{StrNo}
use Rattle.engine_api.specs.declared.asks.Ask.{Ask}
use Rattle.engine_api.specs.declared.asks.Reply.{Reply}
use Rattle.engine_api.specs.declared.asks.What.{What}
use Rattle.engine_api.specs.declared.asks.What.TheVariants as what
use Rattle.engine_api.specs.declared.histories.Entry.{Entry}
use Rattle.plex_spell.specs.Words.{line_of, tail_of}
use Rattle.plex_spell.proofs.Choices.{same_word-of}
use Rattle.plex_plain.specs.Naming.{caller_name, facility_word}
use Rattle.plex_script.specs.declared.scripts.AnyAsk.{AnyAsk}
use Rattle.plex_script.specs.declared.scripts.Script.{Script}
use Rattle.plex_script.specs.Causes.{caller_of}
use Rattle.plex_script.specs.Commands.{MakesCommand}
use Rattle.plex_script.specs.Limits.{KeepsLimits}
use Rattle.plex_report.specs.CommandWords.{ask_words}
use Rattle.plex_report.specs.Lines as lines
use Rattle.plex_report.specs.Lines.{entry_line, is_of_vary}
use Rattle.line_rows.specs.Rows.{is_word}
use Rattle.line_rows.proofs.Words.{caller-said}
use Rattle.reply_rows.specs.Answers.{Answers}
use Rattle.reply_rows.specs.declared.sides.Side.{Side}
use Rattle.reply_rows.specs.declared.sides.Side.TheVariants.{Common}
use Rattle.reply_rows.specs.Replies.{IsReply}
use Rattle.reply_rows.specs.Sides.{asked_side}
use Rattle.report_lines.specs.Entries.{is_free, IsCutLine, any_words}
use Rattle.report_lines.specs.Kinds.{has_words, IsKind}
use Rattle.report_lines.specs.Parts.{reply_value}
use Rattle.report_lines.specs.Picked.{IsPicked, IsPickedReply, IsPickedWhat}
use Rattle.report_lines.specs.Readable.{IsEntry, IsWhat}
use Rattle.report_lines.proofs.PartLaws.{word-free}
use Rattle.report_lines.proofs.ReplyLines.{reply-good}
use Rattle.report_lines.proofs.EntryLaws.{behind-blank, entry-told, replies-same, replies-some}
use Rattle.report_lines.proofs.CallLaws.{mark-in}
use Rattle.report_lines.proofs.MadeLaws.{one-made}
use Rattle.report_lines.proofs.MissedLaws.{one_cut, caller-back, caller-no_system, same_facility, line-free, call-verb}

module _ {C R : Type 0} (of : Ask C → AnyAsk) (cmd_words : Script → C → List (List ℕ))
    (answer_words : Script → R → List (List ℕ)) (answers : List Name16 → Answers R) (In : List Name16 → R → Type 0)
    (is : IsKind of cmd_words answer_words answers In) (script : Script) (on : StrNo) (keeps : KeepsLimits script) where
  -- ---- how an entry's line is cut

  abbrev who_of : ConnId → What C → List ℕ
  who_of by (what.Call asked) = caller_name script.connectors by.0
  who_of by (what.Lost cf) = codes "SYS"

  abbrev done_of : What C → List ℕ
  done_of (what.Call asked) = line_of (ask_words cmd_words script asked)
  done_of (what.Lost cf) = codes "LOST " ++ facility_word cf

  abbrev told_of : What C → Reply R → List ℕ
  told_of w r = line_of (lines.reply_words answer_words script (is_of_vary w) r)

  abbrev line_for : ℕ → ConnId → What C → Reply R → List ℕ
  line_for n by w r = line_of (decimal n ∷ lines.what_words cmd_words script by w
      ++ codes "->" ∷ lines.reply_words answer_words script (is_of_vary w) r)

  told-free : (vary : Bool) (r : Reply R) → IsReply script.connectors (In script.connectors) r
      → is_free 62 (line_of (lines.reply_words answer_words script vary r)) ≡ true
  told-free vary r h =
      let same = replies-same of cmd_words answer_words answers In is script on keeps vary r in
      let good = reply-good script.connectors (answers script.connectors) (In script.connectors) vary Common
      (is.reads script.connectors keeps.connectors vary Common) r h in
      line-free (lines.reply_words answer_words script vary r) (sym (ap (list_all is_word) same) ∙ good)

  told-tail : (vary : Bool) (r : Reply R) → tail_of (lines.reply_words answer_words script vary r)
      ≡ 32 ∷ line_of (lines.reply_words answer_words script vary r)
  told-tail vary r =
      behind-blank (lines.reply_words answer_words script vary r)
      (line_of (lines.reply_words answer_words script vary r))
      (replies-some of cmd_words answer_words answers In is script on keeps vary r) refl

  is-cut : (n : ℕ) (by : ConnId) (w : What C) (r : Reply R) → n < 2 ^ 32 → IsWhat of In script on by r w
      → IsCutLine (line_for n by w r) n (who_of by w) (done_of w) (told_of w r)
  is-cut n by (what.Call asked) r small h =
      let vary = is_of_vary (let w : What C = what.Call asked in w) in
      let who = caller_name script.connectors by.0 in
      let done = line_of (ask_words cmd_words script asked) in
      let words = lines.reply_words answer_words script vary r in
      let some : has_words (ask_words cmd_words script asked) ≡ true =
      sym (ap has_words (is.asks script asked)) ∙ call-verb script.connectors (of asked) in
      let said = behind-blank (ask_words cmd_words script asked) done some refl in
      record {
        whole = entry-told n who (ask_words cmd_words script asked) words done (line_of words) said (told-tail vary r);
        small = small;
        one_word = word-free who (caller-said script.connectors by.0 keeps.connectors h.0);
        no_arrow = told-free vary r h.2;
      }
  is-cut n by (what.Lost cf) r small h =
      let words = lines.reply_words answer_words script false r in
      let lost : List ℕ = codes "LOST " ++ facility_word cf in
      let mark : List (List ℕ) = codes "LOST" ∷ facility_word cf ∷ [] in
      let said : tail_of mark ≡ 32 ∷ lost =
      ap (λ (w : List ℕ). 32 ∷ codes "LOST " ++ w) (append-nil (facility_word cf)) in
      record {
        whole = entry-told n (codes "SYS") mark words lost (line_of words) said (told-tail false r);
        small = small;
        one_word = refl;
        no_arrow = told-free false r (mark-in script.connectors (In script.connectors) r h.2);
      }

  -- ---- what is cut so fixes the entry

  same-reply : (vary : Bool) (side : Side) (r r' : Reply R)
      → line_of (lines.reply_words answer_words script vary r) ≡ line_of (lines.reply_words answer_words script vary r')
      → IsPickedReply of answer_words answers script on vary side r
      → IsPickedReply of answer_words answers script on vary side r' → r ≡ r'
  same-reply vary side r r' e p q =
      let both : Some r ≡ Some r' =
      sym p ∙ ap (reply_value script.connectors (answers script.connectors) vary side) e ∙ q in
      cc

  same-by : (by by' : ConnId) → by.0 ≤ length script.connectors → by'.0 ≤ length script.connectors
      → caller_name script.connectors by.0 ≡ caller_name script.connectors by'.0 → by ≡ by'
  same-by by by' few few' e =
      let one = caller-back script.connectors by.0 keeps.connectors few in
      let other = caller-back script.connectors by'.0 keeps.connectors few' in
      let both : Some by ≡ Some by' = sym one ∙ ap (caller_of script.connectors) e ∙ other in
      cc

  no-system : (by : ConnId) → by.0 ≤ length script.connectors → caller_name script.connectors by.0 ≡ codes "SYS" → ⊥
  no-system by few e = false≢true (sym (caller-no_system script.connectors by.0 keeps.connectors few)
      ∙ same_word-of (caller_name script.connectors by.0) (codes "SYS") e)

  -- the same act
  pub record IsSame (by by' : ConnId) (w w' : What C) (r r' : Reply R) : Type 0 where
    pub who : by ≡ by'
    pub done : w ≡ w'
    pub told : r ≡ r'

  same-call : (by : ConnId) (asked asked' : Ask C) (r r' : Reply R)
      → IsPickedWhat of answer_words answers script on by r (what.Call asked)
      → IsPickedWhat of answer_words answers script on by r' (what.Call asked')
      → line_of (ask_words cmd_words script asked) ≡ line_of (ask_words cmd_words script asked')
      → told_of (let w : What C = what.Call asked in w) r ≡ told_of (let w : What C = what.Call asked' in w) r'
      → (asked ≡ asked') × (r ≡ r')
  same-call by asked asked' r r' p q done told =
      let words : line_of (any_words script.connectors (of asked)) ≡ line_of (any_words script.connectors (of asked')) =
      ap line_of (is.asks script asked) ∙ done ∙ sym (ap line_of (is.asks script asked')) in
      let made : MakesCommand script on by (line_of (any_words script.connectors (of asked))) (of asked') =
      subst (λ (t : List ℕ). MakesCommand script on by t (of asked')) (sym words) q.0 in
      let same : asked ≡ asked' = is.one asked asked'
      (one-made script on by (line_of (any_words script.connectors (of asked))) (of asked) (of asked') p.0 made) in
      (same, by_ask asked' same q.1 told)
    where
      by_ask : (a : Ask C) → asked ≡ a
          → IsPickedReply of answer_words answers script on (is_of_vary (let w : What C = what.Call a in w))
          (asked_side (of a)) r'
          → told_of (let w : What C = what.Call asked in w) r ≡ told_of (let w : What C = what.Call a in w) r'
          → r ≡ r'
      by_ask a same q' told' =
          let vary = is_of_vary (let w : What C = what.Call asked in w) in
          let back = subst (λ (b : Ask C). IsPickedReply of answer_words answers script on
          (is_of_vary (let w : What C = what.Call b in w)) (asked_side (of b)) r') (sym same) q' in
          let words = subst (λ (b : Ask C). told_of (let w : What C = what.Call asked in w) r
          ≡ told_of (let w : What C = what.Call b in w) r') (sym same) told' in
          same-reply vary (asked_side (of asked)) r r' words p.1 back

  same-act : (by by' : ConnId) (w w' : What C) (r r' : Reply R) → IsWhat of In script on by r w
      → IsWhat of In script on by' r' w' → IsPickedWhat of answer_words answers script on by r w
      → IsPickedWhat of answer_words answers script on by' r' w' → who_of by w ≡ who_of by' w' → done_of w ≡ done_of w'
      → told_of w r ≡ told_of w' r' → IsSame by by' w w' r r'
  same-act by by' (what.Call asked) (what.Call asked') r r' h k p q who done told =
      let caller : by ≡ by' = same-by by by' h.0 k.0 who in
      let mine = subst (λ (b : ConnId). IsPickedWhat of answer_words answers script on b r' (what.Call asked'))
      (sym caller) q in
      let both = same-call by asked asked' r r' p mine done told in
      record { who = caller; done = ap (λ (a : Ask C). what.Call a) both.0; told = both.1 }
  same-act by by' (what.Call asked) (what.Lost cf) r r' h k p q who done told = absurd (no-system by h.0 who)
  same-act by by' (what.Lost cf) (what.Call asked) r r' h k p q who done told = absurd (no-system by' k.0 (sym who))
  same-act by by' (what.Lost cf) (what.Lost cf') r r' h k p q who done told = record {
    who = h.0 ∙ sym k.0;
    done = ap (λ (f : _). what.Lost f) (same_facility cf cf' h.1 k.1 done);
    told = same-reply false Common r r' told p q;
  }

  -- two entries which are meant so and print alike are one
  pub one_entry : (one other : Entry C R) → IsEntry of In script on one → IsEntry of In script on other
      → IsPicked of answer_words answers script on one → IsPicked of answer_words answers script on other
      → entry_line cmd_words answer_words script one ≡ entry_line cmd_words answer_words script other → one ≡ other
  one_entry one other h k p q e =
      let cut = is-cut one.no one.by one.what one.reply h.0 h.1 in
      let cut' = is-cut other.no other.by other.what other.reply k.0 k.1 in
      let here = subst (λ (l : List ℕ). IsCutLine l other.no (who_of other.by other.what) (done_of other.what)
      (told_of other.what other.reply)) (sym e) cut' in
      let same = one_cut (line_for one.no one.by one.what one.reply) one.no other.no (who_of one.by one.what)
      (done_of one.what) (told_of one.what one.reply) (who_of other.by other.what) (done_of other.what)
      (told_of other.what other.reply) cut here in
      let act = same-act one.by other.by one.what other.what one.reply other.reply h.1 k.1 p q same.1 same.2 same.3 in
      fields one.no other.no one.by other.by one.what other.what one.reply other.reply same.0 act.who act.done act.told
    where
      fields : (n m : ℕ) (by by' : ConnId) (w w' : What C) (r r' : Reply R) → n ≡ m → by ≡ by' → w ≡ w' → r ≡ r'
          → (let x : Entry C R = record { no = n; by = by; what = w; reply = r } in x)
          ≡ (let y : Entry C R = record { no = m; by = by'; what = w'; reply = r' } in y)
      fields n m by by' w w' r r' a b c d = cc
