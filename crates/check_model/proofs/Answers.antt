-- What is printed is answered in one way.
use Rattle.std.proofs.Common.{◌≡◌, ℕ, ◌+◌, ◌<◌, ◌≤◌, inl, inr, List, length, Option, Some, slice_get, refl, sym, ap, subst, ◌∙◌, arith}
use Rattle.std.proofs.lemmas.Bool.{cases_order}
use Rattle.std.proofs.lemmas.Option.{slice_get_within}
use Rattle.caller_slots.specs.RunShown.CfTypes.declared.forms.StrForm.{StrForm}
use Rattle.caller_slots.specs.RunShown.CfTypes.declared.numbers.ConnId.{ConnId}
use Rattle.caller_slots.specs.RunShown.CfTypes.declared.numbers.StrNo.{StrNo}
use Rattle.caller_slots.specs.RunShown.PlexScript.declared.asks.AnyHistory.{AnyHistory}
use Rattle.caller_slots.specs.RunShown.PlexScript.declared.scripts.Script.{Script}
use Rattle.caller_slots.specs.RunShown.PlexScript.declared.transcripts.AgentEnd.{AgentEnd}
use Rattle.caller_slots.specs.RunShown.PlexScript.declared.transcripts.Transcript.{Transcript}
use Rattle.caller_slots.specs.RunShown.Headline.{ShowsHistories, EndsRight}
use Rattle.check_model.specs.declared.checked.Checked.{Checked}
use Rattle.check_model.specs.declared.printed.Printed.{Printed}
use Rattle.check_model.specs.Printings.{AreDone}
use Rattle.check_model.specs.Judged.{Judges, IsGood, IsBadEntryOf, IsBadItemOf, IsAnyBadBlock, IsBadItem}
use Rattle.check_model.proofs.BadBlocks.{any_illegal, any_one_block}
use Rattle.check_model.proofs.BadItems.{bad_not_good, one_item}

module _ (script : Script) (printed : Printed) (long : length printed.histories ≡ length script.structures)
    (done : AreDone printed) where
  shown_good : ShowsHistories 0 script printed.histories printed.transcripts → (by : ConnId) (transcript : Transcript)
      → slice_get printed.transcripts by.0 ≡ Some transcript → IsGood script printed.histories by transcript.items
  shown_good shows by transcript there =
      let end : transcript.end ≡ AgentEnd.Done = done by.0 transcript there in (
        subst (EndsRight 0 script printed.histories by transcript.items) end (shows.ends by.0 transcript there),
        shows.tests by.0 transcript there,
      )

  shown_legal : ShowsHistories 0 script printed.histories printed.transcripts → (on : StrNo) (place : ℕ)
      → IsBadEntryOf script printed.histories on place → ⊥
  shown_legal shows on place bad =
      let right = shows.histories_right on.0 bad.form bad.entries bad.known bad.there in
      any_illegal bad.form bad.entries place bad.bad right.legal

  same_on : (a b : StrNo) → a.0 ≡ b.0 → a ≡ b
  same_on a b e = ap (λ (n : ℕ). (let it : StrNo = record { 0 = n } in it)) e

  same_by : (a b : ConnId) → a.0 ≡ b.0 → a ≡ b
  same_by a b e = ap (λ (n : ℕ). (let it : ConnId = record { 0 = n } in it)) e

  one_entry : (on on' : StrNo) (place place' : ℕ) → on.0 ≡ on'.0 → IsBadEntryOf script printed.histories on place
      → IsBadEntryOf script printed.histories on' place' → Checked.BadEntry on place ≡ Checked.BadEntry on' place'
  one_entry on on' place place' e one other =
      let same : on ≡ on' = same_on on on' e in
      let forms : Some one.form ≡ Some other.form = sym one.known
      ∙ (ap (λ (n : ℕ). slice_get script.structures n) e ∙ other.known) in
      let entries : Some one.entries ≡ Some other.entries = sym one.there
      ∙ (ap (λ (n : ℕ). slice_get printed.histories n) e ∙ other.there) in
      let form_is : one.form ≡ other.form = cc in
      let entries_is : one.entries ≡ other.entries = cc in
      let moved : IsAnyBadBlock other.form other.entries place = subst (λ (f : StrForm). IsAnyBadBlock f other.entries place)
      form_is (subst (λ (h : AnyHistory). IsAnyBadBlock one.form h place) entries_is one.bad) in
      let numbers : place ≡ place' = any_one_block other.form other.entries place place' moved other.bad in
      ap (λ (x : StrNo). Checked.BadEntry x place) same ∙ ap (λ (n : ℕ). Checked.BadEntry on' n) numbers

  one_bad_item : (by by' : ConnId) (a b : ℕ) → by.0 ≡ by'.0 → IsBadItemOf script printed by a
      → IsBadItemOf script printed by' b → Checked.BadItem by a ≡ Checked.BadItem by' b
  one_bad_item by by' a b e one other =
      let same : by ≡ by' = same_by by by' e in
      let shown : Some one.transcript ≡ Some other.transcript = sym one.there
      ∙ (ap (λ (n : ℕ). slice_get printed.transcripts n) e ∙ other.there) in
      let is : one.transcript ≡ other.transcript = cc in
      let moved : IsBadItem script printed.histories by' other.transcript.items a =
      subst (λ (t : Transcript). IsBadItem script printed.histories by' t.items a) is
      (subst (λ (c : ConnId). IsBadItem script printed.histories c one.transcript.items a) same one.bad) in
      let items : a ≡ b = one_item script printed.histories by' other.transcript.items a b moved other.bad in
      ap (λ (x : ConnId). Checked.BadItem x a) same ∙ ap (λ (n : ℕ). Checked.BadItem by' n) items

  pub one_answer : (one other : Checked) → Judges script printed one → Judges script printed other → one ≡ other
  one_answer (Checked.Yes n) (Checked.Yes m) a b = ap Checked.Yes (a.1 ∙ sym b.1)
  one_answer (Checked.Yes n) (Checked.BadEntry on place) a b = absurd (shown_legal a.0 on place b.1)
  one_answer (Checked.Yes n) (Checked.BadItem by item) a b = absurd (let bad = b.2 in
      bad_not_good script printed.histories by bad.transcript.items item bad.bad
      (shown_good a.0 by bad.transcript bad.there))
  one_answer (Checked.BadEntry on place) (Checked.Yes n) a b = absurd (shown_legal b.0 on place a.1)
  one_answer (Checked.BadItem by item) (Checked.Yes n) a b = absurd (let bad = a.2 in
      bad_not_good script printed.histories by bad.transcript.items item bad.bad
      (shown_good b.0 by bad.transcript bad.there))
  one_answer (Checked.BadEntry on place) (Checked.BadItem by item) a b = absurd (let bad = a.1 in
      any_illegal bad.form bad.entries place bad.bad (b.0 on.0 bad.form bad.entries
      (slice_get_within script.structures on.0 bad.form bad.known) bad.known bad.there))
  one_answer (Checked.BadItem by item) (Checked.BadEntry on place) a b = absurd (let bad = b.1 in
      any_illegal bad.form bad.entries place bad.bad (a.0 on.0 bad.form bad.entries
      (slice_get_within script.structures on.0 bad.form bad.known) bad.known bad.there))
  one_answer (Checked.BadEntry on place) (Checked.BadEntry on' place') a b = elim (cases_order on.0 on'.0) [
    | inl same ↦ one_entry on on' place place' same a.1 b.1
    | inr apart ↦ elim apart [
      | inl less ↦ absurd (let bad = a.1 in any_illegal bad.form bad.entries place bad.bad
          (b.0 on.0 bad.form bad.entries less bad.known bad.there))
      | inr more ↦ absurd (let bad = b.1 in any_illegal bad.form bad.entries place' bad.bad
          (a.0 on'.0 bad.form bad.entries more bad.known bad.there))
    ]
  ]
  one_answer (Checked.BadItem by item) (Checked.BadItem by' item') a b = elim (cases_order by.0 by'.0) [
    | inl same ↦ one_bad_item by by' item item' same a.2 b.2
    | inr apart ↦ elim apart [
      | inl less ↦ absurd (let bad = a.2 in bad_not_good script printed.histories by bad.transcript.items item bad.bad
          (b.1 by.0 bad.transcript less bad.there))
      | inr more ↦ absurd (let bad = b.2 in bad_not_good script printed.histories by' bad.transcript.items item' bad.bad
          (a.1 by'.0 bad.transcript more bad.there))
    ]
  ]
