-- The steps of one work: what is due, and when it breaks off.
use Rattle.std.proofs.Common.{◌≡◌, ℕ, suc, ◌+◌, ◌<◌, ◌*◌, ◌==◌, nat_lt, Bool, true, false, List, [], ◌∷◌, ◌++◌, length, fold, Option, Some, None, unwrap_or, refl, sym, ap, subst, ◌∙◌, arith, cond}
use Rattle.caller_slots.specs.RunShown.CfTypes.declared.{forms.Kind.Kind, numbers.StrNo.StrNo, numbers.ConnId.ConnId}
use Rattle.caller_slots.specs.RunShown.CfTypes.declared.shell_commands.ShellCmd.{ShellCmd}
use Rattle.caller_slots.specs.RunShown.EngineApi.declared.told.Told.{Told}
use Rattle.caller_slots.specs.RunShown.PlexScript.declared.{agents.Step.Step, asks.AnyHistory.AnyHistory, scripts.AnyAsk.AnyAsk, transcripts.Shown.Shown}
use Rattle.caller_slots.specs.RunShown.PlexScript.Agent.{asked_by, step_after, shell_ask}
use Rattle.caller_slots.specs.RunShown.PlexScript.Heard.{AnyCall, link_after}
use Rattle.caller_slots.specs.Asked.{AreAsked}
use Rattle.caller_slots.specs.Slots.{Slot, Calls, Tests, Words, Outside, Place, Ran, How, Rests, Wants, ran, is_rest, with_slot, one_slot}
use Rattle.caller_walk.specs.Counts.{counted, count_one, due_at}
use Rattle.caller_walk.specs.Heard.{IsNextCall, left_at}
use Rattle.caller_walk.specs.Running.{place_of, run_from, leave_ran, GoesThrough, BreaksOff, IsDone, IsOneCall, IsCalled}
use Rattle.caller_walk.specs.declared.{counts.Count.Count, counts.Due.Due, heard.Heard.Heard, spots.Spot.Spot}

never : (asked : Option AnyAsk) → Wants asked ≡ Rests → ⊥
never asked is = absurd cc

-- ---- one call of a run

module _ (kind : Kind) (line : Option AnyAsk) (on : StrNo) where
  rest_ran : (now : Step) (linked : Bool) (left : List AnyCall) → is_rest now ≡ true → ran kind line on now linked left
      ≡ record { slots = []; place = record { linked = linked; left = left }; how = Rests }
  rest_ran now linked [] rests = rw rests refl
  rest_ran now linked (call ∷ left) rests = rw rests refl

  call_ran : (now next : Step) (linked more : Bool) (left rest : List AnyCall) (call : AnyCall) → is_rest now ≡ false
      → left ≡ call ∷ rest → more ≡ link_after linked call → next ≡ step_after now call.told
      → ran kind line on now linked left
      ≡ with_slot (Calls on (asked_by kind line now) call) (ran kind line on next more rest)
  call_ran now next linked more left rest call goes first links steps = rw (first, links, steps, goes) refl

  -- it rests
  pub run_rests : (items : List Shown) (now : Step) (place : Place) (count : Count) → is_rest now ≡ true
      → GoesThrough items (run_from kind line on now place) count count place
  run_rests items now place count rests =
      rw (rest_ran now place.linked place.left rests) (record { rests = refl; asked = tt; counts = refl; leaves = refl })

  -- no call is left
  pub run_lacks : (now : Step) (place : Place) → is_rest now ≡ false → place.left ≡ []
      → BreaksOff (run_from kind line on now place)
  run_lacks now place goes none = by_left place.left none
    where
      by_left : (left : List AnyCall) → left ≡ [] → BreaksOff (ran kind line on now place.linked left)
      by_left [] is = rw goes (λ rests asked. never (asked_by kind line now) rests)
      by_left (call ∷ left) is = absurd cc

  -- the next one asks something else
  pub run_other : (now : Step) (place : Place) (rest : List AnyCall) (call : AnyCall) → is_rest now ≡ false
      → place.left ≡ call ∷ rest → (asked_by kind line now ≡ Some call.ask → ⊥)
      → BreaksOff (run_from kind line on now place)
  run_other now place rest call goes first other rests asked =
      let e = call_ran now (step_after now call.told) place.linked (link_after place.linked call) place.left rest call goes
      first refl refl in
      let all : AreAsked (with_slot (Calls on (asked_by kind line now) call) (ran kind line on (step_after now call.told)
      (link_after place.linked call) rest)).slots = subst (λ (r : Ran). AreAsked r.slots) e asked in
      other all.0

  module _ (items : List Shown) (now next : Step) (before after : Place) (count more : Count) (goes : is_rest now ≡ false)
      (one : IsOneCall kind line on now next items before after count more) where
    is : run_from kind line on now before
        ≡ with_slot (Calls on (asked_by kind line now) one.call) (run_from kind line on next after)
    is = call_ran now next before.linked after.linked before.left after.left one.call goes one.first one.linked one.goes

    pub call_through : (last : Count) (place : Place)
        → GoesThrough items (run_from kind line on next after) more last place
        → GoesThrough items (run_from kind line on now before) count last place
    call_through last place through = subst (λ (r : Ran). GoesThrough items r count last place) (sym is) (record {
      rests = through.rests;
      asked = (one.asked, through.asked);
      counts = through.counts
          ∙ ap (λ (c : Count). counted items c (run_from kind line on next after).slots) one.counts;
      leaves = through.leaves;
    })

    pub call_breaks : BreaksOff (run_from kind line on next after) → BreaksOff (run_from kind line on now before)
    call_breaks breaks rests asked =
        let all : AreAsked (with_slot (Calls on (asked_by kind line now) one.call) (run_from kind line on next after)).slots =
        subst (λ (r : Ran). AreAsked r.slots) is asked in
        let how : (run_from kind line on next after).how ≡ Rests = sym (ap (λ (r : Ran). r.how) is) ∙ rests in
        breaks how all.1

    pub call_shorter : length after.left < length before.left
    call_shorter = rw one.first (omega arith)

-- ---- what is heard, as a call

module _ (kind : Kind) (line : Option AnyAsk) (on : StrNo) (now : Step) (items : List Shown) (conn : ConnId)
    (entries : AnyHistory) (spot : Spot) (goes : is_rest now ≡ false) where
  pub heard_none : left_at conn entries spot.next ≡ [] → BreaksOff (run_from kind line on now (place_of conn entries spot))
  heard_none none = run_lacks kind line on now (place_of conn entries spot) goes none

  pub heard_other : (heard : Heard) → IsNextCall kind line now conn entries spot.next heard
      → heard.as_asked ≡ false → BreaksOff (run_from kind line on now (place_of conn entries spot))
  heard_other heard next wrong =
      run_other kind line on now (place_of conn entries spot) (left_at conn entries heard.next) next.call goes next.first
      (λ asked. (let right : heard.as_asked ≡ true = next.right.1 asked in absurd cc))

  pub heard_one : (heard : Heard) (count more : Count) (after : Spot)
      → IsNextCall kind line now conn entries spot.next heard → heard.as_asked ≡ true
      → more ≡ count_one items count (Due.Call on heard.told.no) → after.next ≡ heard.next
      → after.linked ≡ unwrap_or heard.told.linked spot.linked
      → IsOneCall kind line on now (step_after now heard.told) items (place_of conn entries spot)
      (place_of conn entries after) count more
  heard_one heard count more after next right counts nexts links = record {
    call = next.call;
    first = next.first ∙ ap (λ (n : ℕ). next.call ∷ left_at conn entries n) (sym nexts);
    linked = links ∙ ap (λ (t : Told). unwrap_or t.linked spot.linked) next.told;
    asked = next.right.0 right;
    goes = ap (step_after now) next.told;
    counts = counts ∙ ap (λ (n : ℕ). count_one items count (Due.Call on n)) next.number;
  }

-- ---- works that show one item

pub one_through : (items : List Shown) (slot : Slot) (place : Place) (count : Count) → AreAsked (slot ∷ [])
    → GoesThrough items (one_slot slot place) count (count_one items count (due_at slot)) place
one_through items slot place count asked = record { rests = refl; asked = asked; counts = refl; leaves = refl }

pub test_through : (items : List Shown) (on : StrNo) (index len : ℕ) (place : Place) (count more : Count)
    → more ≡ count_one items count (cond (nat_lt index len) (Due.Test on index) (Due.Outside on index false len))
    → GoesThrough items (one_slot (cond (nat_lt index len) (Tests on index) (Outside on index false len)) place) count
    more place
test_through items on index len place count more is = by_test (nat_lt index len) is
  where
    by_test : (b : Bool) → more ≡ count_one items count (cond b (Due.Test on index) (Due.Outside on index false len))
        → GoesThrough items (one_slot (cond b (Tests on index) (Outside on index false len)) place) count more place
    by_test true is = record { rests = refl; asked = (tt, tt); counts = is; leaves = refl }
    by_test false is = record { rests = refl; asked = (tt, tt); counts = is; leaves = refl }

pub word_through : (items : List Shown) (on : StrNo) (word len : ℕ) (place : Place) (count more : Count)
    → more ≡ count_one items count (cond (nat_lt (32 * word) len) (Due.Word on word) (Due.Outside on word true len))
    → GoesThrough items (one_slot (cond (nat_lt (32 * word) len) (Words on word) (Outside on word true len)) place) count
    more place
word_through items on word len place count more is = by_test (nat_lt (32 * word) len) is
  where
    by_test : (b : Bool) → more ≡ count_one items count (cond b (Due.Word on word) (Due.Outside on word true len))
        → GoesThrough items (one_slot (cond b (Words on word) (Outside on word true len)) place) count more place
    by_test true is = record { rests = refl; asked = (tt, tt); counts = is; leaves = refl }
    by_test false is = record { rests = refl; asked = (tt, tt); counts = is; leaves = refl }

-- ---- a departure

pub leaves_not : (items : List Shown) (kind : Kind) (on : StrNo) (place : Place) (count : Count) → place.linked ≡ false
    → GoesThrough items (leave_ran kind on place) count count place
leaves_not items kind on place count apart = rw apart (record { rests = refl; asked = tt; counts = refl; leaves = refl })

pub leaves_so : (items : List Shown) (kind : Kind) (on : StrNo) (place after : Place) (count more : Count) (done : Bool)
    → place.linked ≡ true
    → IsDone items (run_from kind (Some (shell_ask kind ShellCmd.Disconnect)) on (Step.Call 0) place) count more after done
    → IsDone items (leave_ran kind on place) count more after done
leaves_so items kind on place after count more done active is =
    subst (λ (r : Ran). IsDone items r count more after done) (by_link place.linked refl) is
  where
    by_link : (b : Bool) → place.linked ≡ b
        → run_from kind (Some (shell_ask kind ShellCmd.Disconnect)) on (Step.Call 0) place ≡ leave_ran kind on place
    by_link true is = sym (rw is refl)
    by_link false is = absurd cc
