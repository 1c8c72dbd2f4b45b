-- What is read of a line is the entry that is meant.
use Rattle.std.proofs.Common.{◌≡◌, ℕ, Bool, false, List, Option, Some, None, sym, ap, ◌∙◌, subst, Result, IfOk, IfSome}
use Rattle.cf_types.specs.declared.names.Name16.{Name16}
use Rattle.cf_types.specs.declared.numbers.CfId.{CfId}
use Rattle.cf_types.specs.declared.numbers.ConnId.{ConnId}
use Rattle.cf_types.specs.declared.numbers.StrNo.{StrNo}
use Rattle.engine_api.specs.declared.asks.Ask.{Ask}
use Rattle.engine_api.specs.declared.asks.Reply.{Reply}
use Rattle.engine_api.specs.declared.asks.Reply.TheVariants as reply
use Rattle.engine_api.specs.declared.asks.What.{What}
use Rattle.engine_api.specs.declared.asks.What.TheVariants as what
use Rattle.engine_api.specs.declared.histories.Entry.{Entry}
use Rattle.engine_api.specs.LinkAsks.{operator}
use Rattle.plex_spell.specs.Words.{line_of}
use Rattle.plex_spell.specs.Places.{◌>>=◌}
use Rattle.plex_spell.proofs.Choices.{chosen, mapped, bound, not_some}
use Rattle.plex_script.specs.declared.scripts.AnyAsk.{AnyAsk}
use Rattle.plex_script.specs.declared.scripts.Script.{Script}
use Rattle.plex_script.specs.Commands.{MakesCommand}
use Rattle.plex_script.specs.Limits.{KeepsLimits}
use Rattle.plex_report.specs.Lines as lines
use Rattle.plex_report.specs.Lines.{is_of_vary}
use Rattle.reply_rows.specs.Answers.{Answers}
use Rattle.reply_rows.specs.declared.sides.Side.{Side}
use Rattle.reply_rows.specs.declared.sides.Side.TheVariants.{Common}
use Rattle.reply_rows.specs.Sides.{asked_side}
use Rattle.report_lines.specs.Entries.{IsCutLine, any_words, StandsAs, is_loss, loss_alone, call_entry, mark_entry}
use Rattle.report_lines.specs.Kinds.{IsKind}
use Rattle.report_lines.specs.Parts.{reply_value}
use Rattle.report_lines.specs.Picked.{IsPicked, IsPickedReply}
use Rattle.report_lines.proofs.ReplyLines.{reply-sound}
use Rattle.report_lines.proofs.EntryLaws.{if_ok_more, on_side, replies-same}
use Rattle.report_lines.proofs.KindLaws.{some_of}
use Rattle.report_lines.proofs.MadeLaws.{stands-line}

loss-same : {R : Type 0} (r told : Reply R) → loss_alone r ≡ Some told → r ≡ told
loss-same (reply.Shell answer) told h =
    chosen (is_loss answer) (Some (reply.Shell answer)) None told (λ is e. cc) (λ _ none. absurd (not_some told none)) h
loss-same (reply.Content answer) told h = absurd (cc)
loss-same (reply.Refused refusal) told h = absurd (cc)

module _ {C R : Type 0} (of : Ask C → AnyAsk) (cmd_words : Script → C → List (List ℕ))
    (answer_words : Script → R → List (List ℕ)) (answers : List Name16 → Answers R) (In : List Name16 → R → Type 0)
    (is : IsKind of cmd_words answer_words answers In) (script : Script) (on : StrNo) (keeps : KeepsLimits script) where
  picked-reply : (vary : Bool) (side : Side) (told : List ℕ) (r : Reply R)
      → reply_value script.connectors (answers script.connectors) vary side told ≡ Some r
      → IsPickedReply of answer_words answers script on vary side r
  picked-reply vary side told r h =
      let s = reply-sound script.connectors (answers script.connectors) (In script.connectors) vary side
      (is.reads script.connectors keeps.connectors vary side) told r h in
      let words : line_of (lines.reply_words answer_words script vary r) ≡ told =
      sym (ap line_of (replies-same of cmd_words answer_words answers In is script on keeps vary r)) ∙ s.0 in
      ap (reply_value script.connectors (answers script.connectors) vary side) words ∙ h

  picked-call : (n : ℕ) (done told : List ℕ) (by : ConnId) (asked : Ask C) (entry : Entry C R)
      → MakesCommand script on by done (of asked) × StandsAs script.connectors (of asked) done
      → call_entry script.connectors (answers script.connectors) n by (asked_side (of asked)) asked told ≡ Some entry
      → IsPicked of answer_words answers script on entry
  picked-call n done told by asked entry makes h =
      let vary = is_of_vary (let w : What C = what.Call asked in w) in
      let make : Reply R → Entry C R = λ answer. (record { no = n; by = by; what = what.Call asked; reply = answer }) in
      let side = asked_side (of asked) in
      let m = mapped make (reply_value script.connectors (answers script.connectors) vary side told) entry h in
      let words = stands-line (any_words script.connectors (of asked)) done makes.1 in
      let made = subst (λ (t : List ℕ). MakesCommand script on by t (of asked)) (sym words) makes.0 in
      subst (λ (e : Entry C R). IsPicked of answer_words answers script on e) m.made
      (made, picked-reply vary side told m.value m.read)

  picked-mark : (n : ℕ) (told : List ℕ) (cf : CfId) (entry : Entry C R)
      → mark_entry script.connectors (answers script.connectors) n cf told ≡ Some entry
      → IsPicked of answer_words answers script on entry
  picked-mark n told cf entry h =
      let make : Reply R → Entry C R =
      λ answer. (record { no = n; by = operator; what = what.Lost cf; reply = answer }) in
      let value = reply_value script.connectors (answers script.connectors) false Common told in
      let m = mapped make (value >>= loss_alone) entry h in
      let b = bound loss_alone value m.value m.read in
      let same = loss-same b.value m.value b.then_ in
      subst (λ (e : Entry C R). IsPicked of answer_words answers script on e) (ap make same ∙ m.made)
      (picked-reply false Common told b.value b.read)

  module _ (line : List ℕ) (n : ℕ) (who done told : List ℕ) (cut : IsCutLine line n who done told)
      (connectors : List Name16) (named : connectors ≡ script.connectors) where
    abbrev Picked : Entry C R → Type 0
    Picked = IsPicked of answer_words answers script on

    abbrev Made : ConnId → AnyAsk → Type 0
    Made by asked = MakesCommand script on by done asked × StandsAs script.connectors asked done

    call-picked : (by : ConnId) (asked : Ask C) (o : Option (Entry C R)) → Made by (of asked)
        → o ≡ call_entry connectors (answers connectors) n by (asked_side (of asked)) asked told → IfSome o Picked
    call-picked by asked None makes h = tt
    call-picked by asked (Some entry) makes h =
        let read = subst (λ (names : List Name16).
        Some entry ≡ call_entry names (answers names) n by (asked_side (of asked)) asked told) named h in
        picked-call n done told by asked entry makes (sym read)

    mark-picked : (cf : CfId) (o : Option (Entry C R)) → o ≡ mark_entry connectors (answers connectors) n cf told
        → IfSome o Picked
    mark-picked cf None h = tt
    mark-picked cf (Some entry) h =
        let read = subst (λ (names : List Name16). Some entry ≡ mark_entry names (answers names) n cf told) named h in
        picked-mark n told cf entry (sym read)

    pub called_picked : {E : Type 0} (by : ConnId) (o : Option AnyAsk) (call : AnyAsk) (side : Side) (asked : Ask C)
        (r : Result (Option (Entry C R)) E) → IfSome o (Made by) → o ≡ Some call → side ≡ asked_side call
        → call ≡ of asked → IfOk r (λ x. x ≡ call_entry connectors (answers connectors) n by side asked told)
        → IfOk r (λ x. IfSome x Picked)
    called_picked {E} by o call side asked r found e is_side is_call h =
        let made : Made by (of asked) = subst (Made by) is_call (some_of (Made by) o call found e) in
        if_ok_more r (λ x. x ≡ call_entry connectors (answers connectors) n by (asked_side (of asked)) asked told)
        (λ x. IfSome x Picked) (λ x read. call-picked by asked x made read)
        (on_side connectors (answers connectors) n by side call (of asked) asked told r is_side is_call h)

    pub marked_picked : {E : Type 0} (cf : CfId) (r : Result (Option (Entry C R)) E)
        → IfOk r (λ x. x ≡ mark_entry connectors (answers connectors) n cf told) → IfOk r (λ x. IfSome x Picked)
    marked_picked {E} cf r h =
        if_ok_more r (λ x. x ≡ mark_entry connectors (answers connectors) n cf told) (λ x. IfSome x Picked)
        (λ x read. mark-picked cf x read) h
