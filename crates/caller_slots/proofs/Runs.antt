-- The calls of one work: what their slots take of the caller's calls, and that items fill them where they are shown.
use Rattle.std.proofs.Common.{◌≡◌, ℕ, ◌==◌, Bool, true, false, List, [], ◌∷◌, ◌++◌, map, fold, Option, Some, None, refl, sym, ap, subst, ◌∙◌, cond}
use Rattle.run_shown.specs.CfTypes.declared.forms.Kind.{Kind}
use Rattle.run_shown.specs.CfTypes.declared.numbers.ConnId.{ConnId}
use Rattle.run_shown.specs.CfTypes.declared.numbers.StrNo.{StrNo}
use Rattle.run_shown.specs.EngineApi.declared.told.Told.{Told}
use Rattle.run_shown.specs.PlexScript.declared.agents.Step.{Step}
use Rattle.run_shown.specs.PlexScript.declared.agents.Step.TheVariants as step
use Rattle.run_shown.specs.PlexScript.declared.scripts.AnyAsk.{AnyAsk}
use Rattle.run_shown.specs.PlexScript.declared.transcripts.Shown.{Shown}
use Rattle.run_shown.specs.PlexScript.declared.transcripts.Shown.TheVariants as shown
use Rattle.run_shown.specs.PlexScript.Agent.{step_after, asked_by}
use Rattle.run_shown.specs.PlexScript.Heard.{AnyCall, call_numbered, link_after}
use Rattle.run_shown.specs.PlexScript.Follows.{IsHeard, Runs, numbers_on}
use Rattle.caller_slots.specs.Slots.{Calls, Fills, How, Rests, Wants, Ran, is_rest, with_slot, ran}
use Rattle.caller_slots.proofs.Own.{itself, IsOwn, AreOwn}

-- ---- steps at rest

pub rest_is : (now : Step) → is_rest now ≡ true → now ≡ step.Rest
rest_is (step.Call asks) rests = absurd cc
rest_is (step.Next left behind) rests = absurd cc
rest_is (step.Respond left behind) rests = absurd cc
rest_is step.Rest rests = refl

pub moving : (kind : Kind) (line : Option AnyAsk) (now : Step) (asked : AnyAsk) → asked_by kind line now ≡ Some asked
    → is_rest now ≡ false
moving kind line (step.Call asks) asked is = refl
moving kind line (step.Next left behind) asked is = refl
moving kind line (step.Respond left behind) asked is = refl
moving kind line step.Rest asked is = absurd cc

pub fills_none : (items : List Shown) → Fills [] items → items ≡ []
fills_none [] fills = refl
fills_none (item ∷ items) fills = absurd fills

pub call_number : (on : StrNo) (number : ℕ) (items : List Shown)
    → numbers_on on (shown.Call on number ∷ items) ≡ number ∷ numbers_on on items
call_number on number items = rw (itself on.0) refl

call_elsewhere : (on other : StrNo) (number : ℕ) (items : List Shown) → on.0 == other.0 ≡ false
    → numbers_on other (shown.Call on number ∷ items) ≡ numbers_on other items
call_elsewhere on other number items apart = rw apart refl

-- ---- what slots take

-- the calls that have their place in slots at a structure, of those that were left
pub record Taken (on : StrNo) (linked : Bool) (left : List AnyCall) (ran : Ran) : Type 0 where
  pub taken : List AnyCall
  pub split : left ≡ taken ++ ran.place.left
  pub linked_is : ran.place.linked ≡ fold link_after linked taken
  pub numbers : (items : List Shown) → Fills ran.slots items → numbers_on on items ≡ map (λ call. call.no) taken
  pub elsewhere : (other : StrNo) → on.0 == other.0 ≡ false → (items : List Shown) → Fills ran.slots items
      → numbers_on other items ≡ []

taken_none : (on : StrNo) (linked : Bool) (left : List AnyCall) (how : How)
    → Taken on linked left (record { slots = []; place = record { linked = linked; left = left }; how = how })
taken_none on linked left how =
    record {
      taken = [];
      split = refl;
      linked_is = refl;
      numbers = λ items fills. ap (numbers_on on) (fills_none items fills);
      elsewhere = λ other apart items fills. ap (numbers_on other) (fills_none items fills);
    }

taken_more : (on : StrNo) (linked : Bool) (asked : Option AnyAsk) (call : AnyCall) (left : List AnyCall) (ran : Ran)
    → Taken on (link_after linked call) left ran
    → Taken on linked (call ∷ left) (with_slot (Calls on asked call) ran)
taken_more on linked asked call left ran more =
    record {
      taken = call ∷ more.taken;
      split = ap (λ (t : List AnyCall). call ∷ t) more.split;
      linked_is = more.linked_is;
      numbers = numbers;
      elsewhere = elsewhere;
    }
  where
    numbers : (items : List Shown) → Fills (Calls on asked call ∷ ran.slots) items
        → numbers_on on items ≡ map (λ (c : AnyCall). c.no) (call ∷ more.taken)
    numbers [] fills = absurd fills
    numbers (item ∷ items) fills =
        ap (λ (i : Shown). numbers_on on (i ∷ items)) fills.0.0 ∙ call_number on call.no items
        ∙ ap (λ (t : List ℕ). call.no ∷ t) (more.numbers items fills.1)

    elsewhere : (other : StrNo) → on.0 == other.0 ≡ false → (items : List Shown)
        → Fills (Calls on asked call ∷ ran.slots) items → numbers_on other items ≡ []
    elsewhere other apart [] fills = absurd fills
    elsewhere other apart (item ∷ items) fills =
        ap (λ (i : Shown). numbers_on other (i ∷ items)) fills.0.0 ∙ call_elsewhere on other call.no items apart
        ∙ more.elsewhere other apart items fills.1

module _ (kind : Kind) (line : Option AnyAsk) (on : StrNo) where
  pub ran_takes : (now : Step) (linked : Bool) (left : List AnyCall)
      → Taken on linked left (ran kind line on now linked left)
  ran_takes now linked [] = taken_none on linked [] _
  ran_takes now linked (call ∷ left) =
      by_rest (is_rest now) refl (ran_takes (step_after now call.told) (link_after linked call) left)
    where
      by_rest : (b : Bool) → is_rest now ≡ b
          → Taken on (link_after linked call) left
          (ran kind line on (step_after now call.told) (link_after linked call) left)
          → Taken on linked (call ∷ left) (ran kind line on now linked (call ∷ left))
      by_rest true rests more = rw rests (taken_none on linked (call ∷ left) Rests)
      by_rest false moves more =
          rw moves
          (taken_more on linked (asked_by kind line now) call left
          (ran kind line on (step_after now call.told) (link_after linked call) left) more)

  -- ---- what is shown fills the slots, and the other way round

  module _ (calls : List AnyCall) (by : ConnId) where
    -- what is heard under an own call's number is that call
    pub heard_is : (asked : Option AnyAsk) (number : ℕ) (told : Told) (call : AnyCall) → IsHeard calls by asked number told
        → number ≡ call.no → IsOwn calls by call → (asked ≡ Some call.ask) × (told ≡ call.told)
    heard_is None number told call is same own = absurd is
    heard_is (Some asked) number told call is same own =
        let both : Some (record { no = number; by = by; ask = asked; told = told }) ≡ Some call =
        sym is ∙ ap (λ (n : ℕ). call_numbered n calls) same ∙ own.found in
        (cc, cc)

    pub is_heard : (asked : Option AnyAsk) (call : AnyCall) → asked ≡ Some call.ask → IsOwn calls by call
        → IsHeard calls by asked call.no call.told
    is_heard asked call asks own =
        subst (λ (o : Option AnyAsk). IsHeard calls by o call.no call.told) (sym asks)
        (own.found
        ∙ ap (λ (b : ConnId). Some (let c : AnyCall = record { no = call.no; by = b; ask = call.ask; told = call.told }
        in c)) own.by)

    pub runs_fill : (items : List Shown) (now : Step) (linked : Bool) (left : List AnyCall) (more : List ℕ)
        → AreOwn calls by left → Runs kind line calls by on now items
        → numbers_on on items ++ more ≡ map (λ call. call.no) left
        → ((ran kind line on now linked left).how ≡ Rests) × Fills (ran kind line on now linked left).slots items
    runs_fill [] now linked [] more own runs numbers = rw runs (refl, tt)
    runs_fill [] now linked (call ∷ left) more own runs numbers = rw runs (refl, tt)
    runs_fill (shown.Call place number ∷ items) now linked [] more own (told, here, heard, rest) numbers =
        let wrong : number ∷ (numbers_on on items ++ more) ≡ [] =
        sym (ap (λ (t : List ℕ). t ++ more)
        (ap (λ (p : StrNo). numbers_on on (shown.Call p number ∷ items)) here ∙ call_number on number items))
        ∙ numbers in
        absurd cc
    runs_fill (shown.Call place number ∷ items) now linked (call ∷ left) more own (told, here, heard, rest) numbers =
        let both : number ∷ (numbers_on on items ++ more) ≡ call.no ∷ map (λ (c : AnyCall). c.no) left =
        sym (ap (λ (t : List ℕ). t ++ more)
        (ap (λ (p : StrNo). numbers_on on (shown.Call p number ∷ items)) here ∙ call_number on number items))
        ∙ numbers in
        let same : number ≡ call.no = cc in
        let others : numbers_on on items ++ more ≡ map (λ (c : AnyCall). c.no) left = cc in
        let is = heard_is (asked_by kind line now) number told call heard same own.0 in
        let it : shown.Call place number ≡ shown.Call on call.no =
        ap (λ (p : StrNo). shown.Call p number) here ∙ ap (shown.Call on) same in
        let behind =
        runs_fill items (step_after now call.told) (link_after linked call) left more own.1
        (subst (λ (t : Told). Runs kind line calls by on (step_after now t) items) is.1 rest) others in
        rw (moving kind line now call.ask is.0) (behind.0, ((it, is.0), behind.1))
    runs_fill (shown.Test place index bit at ∷ items) now linked left more own runs numbers = absurd runs
    runs_fill (shown.Word place word bits at ∷ items) now linked left more own runs numbers = absurd runs
    runs_fill (shown.BadIndex place index word len ∷ items) now linked left more own runs numbers = absurd runs
    runs_fill (shown.Posted place sure ∷ items) now linked left more own runs numbers = absurd runs
    runs_fill (shown.Took place sure ∷ items) now linked left more own runs numbers = absurd runs

    pub fills_run : (left : List AnyCall) (now : Step) (linked : Bool) (items : List Shown) → AreOwn calls by left
        → (ran kind line on now linked left).how ≡ Rests → Fills (ran kind line on now linked left).slots items
        → Runs kind line calls by on now items
    fills_run [] now linked items own how fills = by_rest (is_rest now) refl how
      where
        by_rest : (b : Bool) → is_rest now ≡ b → cond b Rests (Wants (asked_by kind line now)) ≡ Rests
            → Runs kind line calls by on now items
        by_rest true rests how =
            subst (Runs kind line calls by on now) (sym (fills_none items fills)) (rest_is now rests)
        by_rest false moves how = absurd cc
    fills_run (call ∷ left) now linked items own how fills =
        by_rest (is_rest now) refl items how fills
        (λ items how fills. fills_run left (step_after now call.told) (link_after linked call) items own.1 how fills)
      where
        behind : Ran
        behind = ran kind line on (step_after now call.told) (link_after linked call) left

        by_rest : (b : Bool) → is_rest now ≡ b → (items : List Shown)
            → (ran kind line on now linked (call ∷ left)).how ≡ Rests
            → Fills (ran kind line on now linked (call ∷ left)).slots items
            → ((items : List Shown) → behind.how ≡ Rests → Fills behind.slots items
            → Runs kind line calls by on (step_after now call.told) items)
            → Runs kind line calls by on now items
        by_rest true rests items how fills rest =
            let none : Fills [] items = rw rests at fills in
            subst (Runs kind line calls by on now) (sym (fills_none items none)) (rest_is now rests)
        by_rest false moves [] how fills rest =
            let none : Fills (Calls on (asked_by kind line now) call ∷ behind.slots) [] = rw moves at fills in absurd none
        by_rest false moves (item ∷ items) how fills rest =
            let one : Fills (Calls on (asked_by kind line now) call ∷ behind.slots) (item ∷ items) =
            rw moves at fills in
            let done : behind.how ≡ Rests = rw moves at how in
            subst (λ (i : Shown). Runs kind line calls by on now (i ∷ items)) (sym one.0.0)
            (call.told, refl, is_heard (asked_by kind line now) call one.0.1 own.0, rest items done one.1)
