-- What is known of a caller where all histories are legal and have answered its tests.
use Rattle.std.proofs.Common.{◌≡◌, ℕ, ◌+◌, ◌<◌, ◌≤◌, List, [], length, map, take, get_or, slice_get, Option, Some, None, refl, sym, ap, subst, ◌∙◌, arith}
use Rattle.std.specs.Prelude.{All, IfSome}
use Rattle.std.proofs.lemmas.Option.{slice_get_within, slice_get-get_or}
use Rattle.caller_slots.specs.RunShown.CfTypes.declared.forms.StrForm.{StrForm}
use Rattle.caller_slots.specs.RunShown.CfTypes.declared.numbers.ConnId.{ConnId}
use Rattle.caller_slots.specs.RunShown.CfTypes.declared.numbers.StrNo.{StrNo}
use Rattle.caller_slots.specs.RunShown.PlexScript.declared.asks.AnyHistory.{AnyHistory}
use Rattle.caller_slots.specs.RunShown.PlexScript.declared.scripts.Line.{Line}
use Rattle.caller_slots.specs.RunShown.PlexScript.declared.scripts.Script.{Script}
use Rattle.caller_slots.specs.RunShown.PlexScript.declared.transcripts.Shown.{Shown}
use Rattle.caller_slots.specs.RunShown.PlexScript.declared.transcripts.Transcript.{Transcript}
use Rattle.caller_slots.specs.RunShown.PlexScript.Heard.{calls_of, calls_on}
use Rattle.caller_slots.specs.RunShown.PlexScript.WellFormed.{IsWellFormed}
use Rattle.caller_slots.specs.RunShown.Headline.{place_of}
use Rattle.caller_slots.specs.RunShown.Kinds.{IsAnyLegal, Rising}
use Rattle.run_shown.proofs.HistoryLaws.{calls_rise}
use Rattle.cf_lists.proofs.TableLaws.{get_within}
use Rattle.caller_items.specs.Orders.{AreInOrder}
use Rattle.caller_walk.specs.Running.{AreOfKinds, IsWalked}
use Rattle.caller_walk.specs.declared.counts.Count.{Count}
use Rattle.vector_waits.specs.Waits.{QueueView, untold}
use Rattle.caller_waits.specs.Tests.{waits_of}
use Rattle.check_model.specs.Judged.{AreLegalBelow, IsBadItem, IsBadItemOf, IsGood}
use Rattle.check_model.specs.Printings.{IsPrintedOf}
use Rattle.check_model.specs.declared.printed.Printed.{Printed}
use Rattle.caller_check.specs.Tables.{AreAnswered}
use Rattle.caller_check.specs.Untold.{HaveRows}
use Rattle.caller_check.specs.First.{IsGoodOf, AreItemsOf, HaveQueuesInOrder, IsFirstWrong, first_bad}
use Rattle.caller_check.proofs.FirstLaws.{one_order, unsound_bad, some_bad, none_bad}

pub its_items : (printed : Printed) (conn : ConnId) → conn.0 < length printed.transcripts → (place : ℕ)
    → place ≡ conn.0 → (transcript : Transcript) → transcript ≡ get_or printed.transcripts place transcript
    → (items : List Shown) → items ≡ transcript.items → AreItemsOf printed conn items
its_items printed conn few place is transcript value items are = record {
  transcript = transcript;
  there = subst (λ (n : ℕ). slice_get printed.transcripts n ≡ Some transcript) is
      (slice_get-get_or printed.transcripts place transcript (omega (arith, few, is))
      ∙ ap (λ (t : Transcript). Some t) (sym value));
  are = are;
}

module _ (script : Script) (printed : Printed) (formed : IsWellFormed script) (is' : IsPrintedOf script printed) where
  known : All (λ (line : Line). line.on.0 < length script.structures) script.lines
  known k d low = (let line = formed.lines k d low in slice_get_within script.structures _ line.form line.known)

  pub kinds : AreOfKinds script.structures printed.histories
  kinds x form entries known' there = (let it = is'.histories x form entries known' there in it.kind)

  module _ (conn : ConnId) (few : conn.0 ≤ length script.connectors) where
    pub caller_within : conn.0 < length printed.transcripts
    caller_within = (let size : length printed.transcripts ≡ length script.connectors + 1 = is'.callers in
        omega (arith, few, size))

    module _ (items : List Shown) (its : AreItemsOf printed conn items) where
      pub placed : All (λ (item : Shown). (place_of item).0 < length script.structures) items
      placed = subst (λ (l : List Shown). All (λ (item : Shown). (place_of item).0 < length script.structures) l)
          (sym its.are) (is'.items conn.0 its.transcript its.there)

      pub placed_in : All (λ (item : Shown). (place_of item).0 < length printed.histories) items
      placed_in = subst (λ (n : ℕ). All (λ (item : Shown). (place_of item).0 < n) items) (sym is'.structures) placed

      module _ (legal : AreLegalBelow script printed.histories (length script.structures)) where
        all_legal : (x : ℕ) (form : StrForm) (entries : AnyHistory) → slice_get script.structures x ≡ Some form
            → slice_get printed.histories x ≡ Some entries → IsAnyLegal form entries
        all_legal x form entries known' there =
            legal x form entries (slice_get_within script.structures x form known') known' there

        rise : (on : StrNo) → Rising 0 (calls_on printed.histories on)
        rise on = by_history (slice_get printed.histories on.0) refl
          where
            by_history : (o : Option AnyHistory) → slice_get printed.histories on.0 ≡ o → Rising 0 (calls_of o)
            by_history None none = tt
            by_history (Some entries) there =
                let low = slice_get_within printed.histories on.0 entries there in
                let same : length printed.histories ≡ length script.structures = is'.structures in
                let form = get_within script.structures on.0 (omega (arith, low, same)) in
                calls_rise form.0 entries (all_legal on.0 form.0 entries form.1 there)

        bad_of : (item : ℕ) → IsBadItem script printed.histories conn items item → IsBadItemOf script printed conn item
        bad_of item bad = record {
          transcript = its.transcript;
          there = its.there;
          bad = subst (λ (l : List Shown). IsBadItem script printed.histories conn l item) its.are bad;
        }

        good_of : IsGood script printed.histories conn items → IsGoodOf script printed conn
        good_of good transcript there =
            let both : Some its.transcript ≡ Some transcript = sym its.there ∙ there in
            let same : its.transcript ≡ transcript = cc in
            subst (λ (l : List Shown). IsGood script printed.histories conn l)
            (its.are ∙ ap (λ (t : Transcript). t.items) same) good

        module _ (forms : List StrForm) (forms_are : forms ≡ script.structures) (histories : List AnyHistory)
            (histories_are : histories ≡ printed.histories) (o : Option Count)
            (walked : IsWalked script histories conn items o) (right : ℕ)
            (wrong : IsFirstWrong forms histories conn items right) (answer : Option ℕ)
            (made : answer ≡ first_bad o right (length items)) where
          walked_here : IsWalked script printed.histories conn items o
          walked_here = subst (λ (h : List AnyHistory). IsWalked script h conn items o) histories_are walked

          wrong_here : IsFirstWrong script.structures printed.histories conn items right
          wrong_here = subst (λ (f : List StrForm). IsFirstWrong f printed.histories conn items right) forms_are
              (subst (λ (h : List AnyHistory). IsFirstWrong forms h conn items right) histories_are wrong)

          bad_at : (o : Option Count) → IsWalked script printed.histories conn items o → (item : ℕ)
              → first_bad o right (length items) ≡ Some item → IsBadItem script printed.histories conn items item
          bad_at None broken item at =
              let is : 1 ≡ item = cc in
              subst (IsBadItem script printed.histories conn items) is
              (unsound_bad script printed.histories conn is'.structures known all_legal rise items placed broken)
          bad_at (Some count) whole item at = some_bad script printed.histories conn is'.structures known all_legal rise
              items placed count right whole wrong_here item at

          good_at : (o : Option Count) → IsWalked script printed.histories conn items o
              → first_bad o right (length items) ≡ None → IsGood script printed.histories conn items
          good_at None broken at = absurd cc
          good_at (Some count) whole at = none_bad script printed.histories conn is'.structures known all_legal rise items
              placed count right whole wrong_here at

          pub item_bad : IfSome answer (IsBadItemOf script printed conn)
          item_bad = by_answer answer refl
            where
              by_answer : (a : Option ℕ) → answer ≡ a → IfSome a (IsBadItemOf script printed conn)
              by_answer None is = tt
              by_answer (Some item) is = bad_of item (bad_at o walked_here item (sym made ∙ is))

          pub item_good : answer ≡ None → IsGoodOf script printed conn
          item_good none = good_of (good_at o walked_here (sym made ∙ none))

      module _ (tables : List (List QueueView)) (answered : AreAnswered script printed tables) where
        pub have_rows : HaveRows script.structures tables conn
        have_rows = record {
          size = answered.size;
          rows = λ x table row. (
              let long = answered.rows x table row in let low = caller_within in omega (arith, long, low));
        }

        pub have_queues : HaveQueuesInOrder script.structures printed.histories tables conn items
        have_queues many order = record {
          each = λ on form entries table queue known' there row at. (
              let it = answered.each on form entries table conn its.transcript queue known' there row its.there at in
              let order' : AreInOrder printed.histories items it.many =
              subst (λ (l : List Shown). AreInOrder printed.histories l it.many) (sym its.are) it.order in
              let same : it.many ≡ many = one_order printed.histories items it.many many order' order in
              let items_are : take it.many its.transcript.items ≡ take many items =
              ap (λ (l : List Shown). take it.many l) (sym its.are) ∙ ap (λ (n : ℕ). take n items) same in
              record {
                caller = it.caller;
                tests = it.tests ∙ ap (λ (l : List Shown). map untold (waits_of on form.vector [] l)) items_are;
                settled = it.settled;
              });
        }

        pub have_queues_in : (forms : List StrForm) → forms ≡ script.structures → (histories : List AnyHistory)
            → histories ≡ printed.histories → HaveQueuesInOrder forms histories tables conn items
        have_queues_in forms forms_are histories histories_are =
            subst (λ (f : List StrForm). HaveQueuesInOrder f histories tables conn items) (sym forms_are)
            (subst (λ (h : List AnyHistory). HaveQueuesInOrder script.structures h tables conn items) (sym histories_are)
            have_queues)
