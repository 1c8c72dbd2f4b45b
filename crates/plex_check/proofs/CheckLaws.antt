-- What a check answers, where histories and callers are judged.
use Rattle.std.proofs.Common.{◌≡◌, ℕ, ◌+◌, ◌≤◌, inl, inr, List, length, slice_get, Some, sym, ap, subst, arith, sum_by, Result}
use Rattle.std.specs.Prelude.{IfOk}
use Rattle.std.proofs.lemmas.List.Elements.{All-weaker}
use Rattle.std.proofs.lemmas.Bool.{cases_lt}
use Rattle.std.proofs.lemmas.Option.{slice_get_within}
use Rattle.std.proofs.lemmas.Result.{IfOk-weaker}
use Rattle.cf_types.specs.NoMemory.declared.wants.NoMemory.{NoMemory}
use Rattle.cf_types.specs.declared.numbers.ConnId.{ConnId}
use Rattle.cf_types.specs.declared.numbers.StrNo.{StrNo}
use Rattle.check_model.specs.RunShown.PlexScript.declared.asks.AnyHistory.{AnyHistory}
use Rattle.check_model.specs.RunShown.PlexScript.declared.scripts.Script.{Script}
use Rattle.check_model.specs.RunShown.PlexScript.declared.transcripts.AgentEnd.{AgentEnd}
use Rattle.check_model.specs.RunShown.PlexScript.declared.transcripts.Transcript.{Transcript}
use Rattle.check_model.specs.RunShown.PlexScript.Follows.{Follows}
use Rattle.check_model.specs.RunShown.PlexScript.Heard.{any_calls, any_length}
use Rattle.check_model.specs.RunShown.Headline.{EndsRight, ShowsHistories}
use Rattle.check_model.specs.declared.checked.Checked.{Checked}
use Rattle.check_model.specs.declared.printed.Printed.{Printed}
use Rattle.check_model.specs.Judged.{AreGoodBelow, AreLegalBelow, IsBadEntryOf, IsBadItemOf, IsGood, Judges}
use Rattle.check_model.specs.Printings.{IsCallOf, IsPrintedOf}

module _ (script : Script) (printed : Printed) where
  -- a transcript with the end Done ends right where it follows the script
  ends_done : (conn : ConnId) (transcript : Transcript) → transcript.end ≡ AgentEnd.Done
      → Follows script printed.histories conn transcript.items
      → EndsRight 0 script printed.histories conn transcript.items transcript.end
  ends_done conn transcript done follows =
      subst (λ (end : AgentEnd). EndsRight 0 script printed.histories conn transcript.items end) (sym done) follows

  pub shows_all : IsPrintedOf script printed
      → AreLegalBelow script printed.histories (length script.structures)
      → AreGoodBelow script printed (length printed.transcripts)
      → ShowsHistories 0 script printed.histories printed.transcripts
  shows_all is legal good = record {
    structures = is.structures;
    histories_right = λ x form entries known there.
        let whose = is.histories x form entries known there in record {
          kind = whose.kind;
          legal = legal x form entries (slice_get_within script.structures x form known) known there;
          callers = All-weaker (IsCallOf script) (λ call. call.by.0 ≤ length script.connectors) (λ call of. of.0)
              (any_calls entries) whose.callers;
        };
    callers = is.callers;
    ends = λ c transcript there. ends_done (record { 0 = c }) transcript (is.done c transcript there)
        (good c transcript (slice_get_within printed.transcripts c transcript there) there).0;
    tests = λ c transcript there. (good c transcript (slice_get_within printed.transcripts c transcript there) there).1;
  }

  -- ---- one caller after another

  pub good_none : AreGoodBelow script printed 0
  good_none c transcript less there = absurd (omega (arith, less))

  pub good_more : (n : ℕ) → AreGoodBelow script printed n → ((transcript : Transcript)
      → slice_get printed.transcripts n ≡ Some transcript
      → IsGood script printed.histories (record { 0 = n }) transcript.items) → AreGoodBelow script printed (n + 1)
  good_more n so_far here c transcript less there = elim (cases_lt c n) [
    | inl before ↦ so_far c transcript before there
    | inr more ↦
        let last : n ≡ c = omega (arith, less, more) in
        let its : slice_get printed.transcripts n ≡ Some transcript =
        subst (λ (m : ℕ). slice_get printed.transcripts m ≡ Some transcript) (sym last) there in
        let whose : (let it : ConnId = record { 0 = n } in let other : ConnId = record { 0 = c } in it ≡ other) =
        ap (λ (m : ℕ). (let it : ConnId = record { 0 = m } in it)) last in
        subst (λ (c : ConnId). IsGood script printed.histories c transcript.items) whose (here transcript its)
  ]

  -- ---- the answer

  abbrev Fits : Result Checked NoMemory → Type 0
  Fits answer = IfOk answer (Judges script printed)

  pub yes_fits : IsPrintedOf script printed → AreLegalBelow script printed.histories (length script.structures)
      → (n : ℕ) → AreGoodBelow script printed n → length printed.transcripts ≤ n → (histories : List AnyHistory)
      → histories ≡ printed.histories → (answer : Result Checked NoMemory)
      → IfOk answer (λ a. a ≡ Checked.Yes (sum_by any_length histories)) → Fits answer
  yes_fits is legal n good past histories same answer = IfOk-weaker answer
      (λ a. a ≡ Checked.Yes (sum_by any_length histories)) (Judges script printed)
      (λ a made. subst (Judges script printed) (sym made) (
        shows_all is legal (λ c transcript less there. good c transcript (omega (arith, less, past)) there),
        ap (sum_by any_length) same,
      ))

  pub entry_fits : (on : StrNo) (place : ℕ) → AreLegalBelow script printed.histories on.0
      → IsBadEntryOf script printed.histories on place → (answer : Result Checked NoMemory)
      → IfOk answer (λ a. a ≡ Checked.BadEntry on place) → Fits answer
  entry_fits on place legal bad answer = IfOk-weaker answer (λ a. a ≡ Checked.BadEntry on place)
      (Judges script printed) (λ a made. subst (Judges script printed) (sym made) (legal, bad))

  pub item_fits : (by : ConnId) (item : ℕ) → AreLegalBelow script printed.histories (length script.structures)
      → AreGoodBelow script printed by.0 → IsBadItemOf script printed by item → (answer : Result Checked NoMemory)
      → IfOk answer (λ a. a ≡ Checked.BadItem by item) → Fits answer
  item_fits by item legal good bad answer = IfOk-weaker answer (λ a. a ≡ Checked.BadItem by item)
      (Judges script printed) (λ a made. subst (Judges script printed) (sym made) (legal, good, bad))
