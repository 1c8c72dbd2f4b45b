-- One work, whichever it is: what its slots take, and that items fill them where they are shown.
use Rattle.std.proofs.Common.{◌≡◌, ℕ, ◌*◌, nat_lt, Bool, true, false, List, [], ◌∷◌, ◌++◌, map, Option, Some, None, refl, sym, ap, subst, cond, slice_get, MatchBool}
use Rattle.run_shown.specs.CfTypes.declared.forms.StrForm.{StrForm}
use Rattle.run_shown.specs.CfTypes.declared.numbers.ConnId.{ConnId}
use Rattle.run_shown.specs.CfTypes.declared.numbers.StrNo.{StrNo}
use Rattle.run_shown.specs.CfTypes.declared.shell_commands.ShellCmd.TheVariants as cmd
use Rattle.run_shown.specs.PlexScript.declared.agents.Step.TheVariants as step
use Rattle.run_shown.specs.PlexScript.declared.asks.AnyHistory.{AnyHistory}
use Rattle.run_shown.specs.PlexScript.declared.scripts.Act.{Act}
use Rattle.run_shown.specs.PlexScript.declared.scripts.Act.TheVariants as act
use Rattle.run_shown.specs.PlexScript.declared.transcripts.Shown.{Shown}
use Rattle.run_shown.specs.PlexScript.declared.transcripts.Shown.TheVariants as shown
use Rattle.run_shown.specs.PlexScript.Agent.{first_step, shell_ask}
use Rattle.run_shown.specs.PlexScript.Heard.{AnyCall, calls_on}
use Rattle.run_shown.specs.PlexScript.Follows.{Runs, ShowsAct, numbers_on, is_linked_by}
use Rattle.caller_slots.specs.Works.{Work, Does, Leaves, work_on, ShowsWork}
use Rattle.caller_slots.specs.Slots.{Slot, Calls, Tests, Words, Outside, Posts, Takes, FillsOne, Fills, Place, How, Rests, Wants, ran, one_slot, act_ran, line_ran, work_ran}
use Rattle.caller_slots.proofs.Own.{AreOwn}
use Rattle.caller_slots.proofs.Runs.{Taken, ran_takes, runs_fill, fills_run, fills_none}

-- ---- slots of one item that is no call

abbrev IsNoCall : Slot → Type 0
IsNoCall (Calls on asked call) = ⊥
IsNoCall (Tests on index) = Unit {0}
IsNoCall (Words on word) = Unit {0}
IsNoCall (Outside on index word len) = Unit {0}
IsNoCall (Posts on) = Unit {0}
IsNoCall (Takes on) = Unit {0}

no_number : (slot : Slot) (item : Shown) (other : StrNo) → IsNoCall slot → FillsOne slot item
    → numbers_on other (item ∷ []) ≡ []
no_number (Calls on asked call) item other none fills = absurd none
no_number (Tests on index) item other none (bit, (at, is)) = ap (λ (i : Shown). numbers_on other (i ∷ [])) is
no_number (Words on word) item other none (bits, (at, is)) = ap (λ (i : Shown). numbers_on other (i ∷ [])) is
no_number (Outside on index word len) item other none is = ap (λ (i : Shown). numbers_on other (i ∷ [])) is
no_number (Posts on) item other none (sure, is) = ap (λ (i : Shown). numbers_on other (i ∷ [])) is
no_number (Takes on) item other none (sure, is) = ap (λ (i : Shown). numbers_on other (i ∷ [])) is

fills_no_call : (slot : Slot) (items : List Shown) (other : StrNo) → IsNoCall slot → Fills (slot ∷ []) items
    → numbers_on other items ≡ []
fills_no_call slot [] other none fills = absurd fills
fills_no_call slot (item ∷ []) other none fills = no_number slot item other none fills.0
fills_no_call slot (item ∷ item' ∷ items) other none fills = absurd fills.1

one_takes : (on : StrNo) (slot : Slot) (place : Place) → IsNoCall slot
    → Taken on place.linked place.left (one_slot slot place)
one_takes on slot place none =
    record {
      taken = [];
      split = refl;
      linked_is = refl;
      numbers = λ items fills. fills_no_call slot items on none fills;
      elsewhere = λ other apart items fills. fills_no_call slot items other none fills;
    }

one_item : (slot : Slot) (items : List Shown) (P : List Shown → Type 0) → Fills (slot ∷ []) items
    → ((item : Shown) → FillsOne slot item → P (item ∷ [])) → P items
one_item slot [] P fills each = absurd fills
one_item slot (item ∷ []) P fills each = each item fills.0
one_item slot (item ∷ item' ∷ items) P fills each = absurd fills.1

test_slot : (form : StrForm) (on : StrNo) (index : ℕ) → IsNoCall
    (cond (nat_lt index form.vector) (Tests on index) (Outside on index false form.vector))
test_slot form on index = by_place (nat_lt index form.vector)
  where
    by_place : (b : Bool) → IsNoCall (cond b (Tests on index) (Outside on index false form.vector))
    by_place true = tt
    by_place false = tt

word_slot : (form : StrForm) (on : StrNo) (word : ℕ) → IsNoCall
    (cond (nat_lt (32 * word) form.vector) (Words on word) (Outside on word true form.vector))
word_slot form on word = by_place (nat_lt (32 * word) form.vector)
  where
    by_place : (b : Bool) → IsNoCall (cond b (Words on word) (Outside on word true form.vector))
    by_place true = tt
    by_place false = tt

-- ---- acts

pub act_takes : (form : StrForm) (on : StrNo) (retry : ℕ) (done : Act) (place : Place)
    → Taken on place.linked place.left (act_ran form on retry done place)
act_takes form on retry (act.Call asked) place =
    ran_takes form.kind (Some asked) on (step.Call retry) place.linked place.left
act_takes form on retry act.Events place =
    ran_takes form.kind None on (first_step act.Events retry) place.linked place.left
act_takes form on retry (act.Test index) place = one_takes on _ place (test_slot form on index)
act_takes form on retry (act.TestWord word) place = one_takes on _ place (word_slot form on word)
act_takes form on retry act.Post place = one_takes on (Posts on) place tt
act_takes form on retry act.Take place = one_takes on (Takes on) place tt

module _ (form : StrForm) (calls : List AnyCall) (by : ConnId) (on : StrNo) (retry : ℕ) (place : Place)
    (own : AreOwn calls by place.left) where
  pub act_fills : (done : Act) (items : List Shown) (more : List ℕ)
      → ShowsAct form calls by on retry done items
      → numbers_on on items ++ more ≡ map (λ call. call.no) place.left
      → ((act_ran form on retry done place).how ≡ Rests) × Fills (act_ran form on retry done place).slots items
  act_fills (act.Call asked) items more shows numbers =
      runs_fill form.kind (Some asked) on calls by items (step.Call retry) place.linked place.left more own shows numbers
  act_fills act.Events items more shows numbers =
      runs_fill form.kind None on calls by items (first_step act.Events retry) place.linked place.left more own shows
      numbers
  act_fills (act.Test index) items more shows numbers = (refl, by_place (nat_lt index form.vector) shows)
    where
      by_place : (b : Bool)
          → MatchBool b ((bit : Bool) × ((at : ℕ) × (items ≡ shown.Test on index bit at ∷ [])))
          (items ≡ shown.BadIndex on index false form.vector ∷ [])
          → Fills (cond b (Tests on index) (Outside on index false form.vector) ∷ []) items
      by_place true (bit, (at, is)) =
          subst (Fills (Tests on index ∷ [])) (sym is) ((bit, (at, refl)), tt)
      by_place false is = subst (Fills (Outside on index false form.vector ∷ [])) (sym is) (refl, tt)
  act_fills (act.TestWord word) items more shows numbers = (refl, by_place (nat_lt (32 * word) form.vector) shows)
    where
      by_place : (b : Bool)
          → MatchBool b ((bits : ℕ) × ((at : ℕ) × (items ≡ shown.Word on word bits at ∷ [])))
          (items ≡ shown.BadIndex on word true form.vector ∷ [])
          → Fills (cond b (Words on word) (Outside on word true form.vector) ∷ []) items
      by_place true (bits, (at, is)) =
          subst (Fills (Words on word ∷ [])) (sym is) ((bits, (at, refl)), tt)
      by_place false is = subst (Fills (Outside on word true form.vector ∷ [])) (sym is) (refl, tt)
  act_fills act.Post items more (sure, is) numbers =
      (refl, subst (Fills (Posts on ∷ [])) (sym is) ((sure, refl), tt))
  act_fills act.Take items more (sure, is) numbers =
      (refl, subst (Fills (Takes on ∷ [])) (sym is) ((sure, refl), tt))

  pub act_shows : (done : Act) (items : List Shown) → (act_ran form on retry done place).how ≡ Rests
      → Fills (act_ran form on retry done place).slots items → ShowsAct form calls by on retry done items
  act_shows (act.Call asked) items how fills =
      fills_run form.kind (Some asked) on calls by place.left (step.Call retry) place.linked items own how fills
  act_shows act.Events items how fills =
      fills_run form.kind None on calls by place.left (first_step act.Events retry) place.linked items own how fills
  act_shows (act.Test index) items how fills = by_place (nat_lt index form.vector) fills
    where
      by_place : (b : Bool) → Fills (cond b (Tests on index) (Outside on index false form.vector) ∷ []) items
          → MatchBool b ((bit : Bool) × ((at : ℕ) × (items ≡ shown.Test on index bit at ∷ [])))
          (items ≡ shown.BadIndex on index false form.vector ∷ [])
      by_place true fills =
          one_item (Tests on index) items
          (λ items. (bit : Bool) × ((at : ℕ) × (items ≡ shown.Test on index bit at ∷ []))) fills
          (λ item one. (one.0, (one.1.0, ap (λ (i : Shown). i ∷ []) one.1.1)))
      by_place false fills =
          one_item (Outside on index false form.vector) items
          (λ items. items ≡ shown.BadIndex on index false form.vector ∷ []) fills
          (λ item one. ap (λ (i : Shown). i ∷ []) one)
  act_shows (act.TestWord word) items how fills = by_place (nat_lt (32 * word) form.vector) fills
    where
      by_place : (b : Bool) → Fills (cond b (Words on word) (Outside on word true form.vector) ∷ []) items
          → MatchBool b ((bits : ℕ) × ((at : ℕ) × (items ≡ shown.Word on word bits at ∷ [])))
          (items ≡ shown.BadIndex on word true form.vector ∷ [])
      by_place true fills =
          one_item (Words on word) items
          (λ items. (bits : ℕ) × ((at : ℕ) × (items ≡ shown.Word on word bits at ∷ []))) fills
          (λ item one. (one.0, (one.1.0, ap (λ (i : Shown). i ∷ []) one.1.1)))
      by_place false fills =
          one_item (Outside on word true form.vector) items
          (λ items. items ≡ shown.BadIndex on word true form.vector ∷ []) fills
          (λ item one. ap (λ (i : Shown). i ∷ []) one)
  act_shows act.Post items how fills =
      one_item (Posts on) items (λ items. (sure : ℕ) × (items ≡ shown.Posted on sure ∷ [])) fills
      (λ item one. (one.0, ap (λ (i : Shown). i ∷ []) one.1))
  act_shows act.Take items how fills =
      one_item (Takes on) items (λ items. (sure : ℕ) × (items ≡ shown.Took on sure ∷ [])) fills
      (λ item one. (one.0, ap (λ (i : Shown). i ∷ []) one.1))

-- ---- works

-- whose work it is
abbrev pub IsBy : ConnId → Work → Type 0
IsBy conn (Does line) = line.by ≡ conn
IsBy conn (Leaves kind on) = Unit {0}

pub nothing_takes : (on : StrNo) (place : Place) (how : How)
    → Taken on place.linked place.left (record { slots = []; place = place; how = how })
nothing_takes on place how =
    record {
      taken = [];
      split = refl;
      linked_is = refl;
      numbers = λ items fills. ap (numbers_on on) (fills_none items fills);
      elsewhere = λ other apart items fills. ap (numbers_on other) (fills_none items fills);
    }

module _ (forms : List StrForm) (histories : List AnyHistory) (conn : ConnId) where
  pub work_takes : (work : Work) (place : Place)
      → Taken (work_on work) place.linked place.left (work_ran forms work place)
  work_takes (Does line) place = by_form (slice_get forms line.on.0)
    where
      by_form : (o : Option StrForm) → Taken line.on place.linked place.left (line_ran o line place)
      by_form None = nothing_takes line.on place (Wants None)
      by_form (Some form) = act_takes form line.on line.retry line.act place
  work_takes (Leaves kind on) place = by_link place.linked refl
    where
      by_link : (b : Bool) → place.linked ≡ b → Taken on place.linked place.left (work_ran forms (Leaves kind on) place)
      by_link true active =
          rw active
          (rw active at
          (ran_takes kind (Some (shell_ask kind cmd.Disconnect)) on (step.Call 0) place.linked place.left))
      by_link false inactive = rw inactive (rw inactive at (nothing_takes on place Rests))

  pub work_fills : (before : List Shown) (work : Work) (place : Place) (items : List Shown) (more : List ℕ)
      → IsBy conn work → AreOwn (calls_on histories (work_on work)) conn place.left
      → is_linked_by (calls_on histories (work_on work)) conn (work_on work) before ≡ place.linked
      → ShowsWork forms histories conn work before items
      → numbers_on (work_on work) items ++ more ≡ map (λ call. call.no) place.left
      → ((work_ran forms work place).how ≡ Rests) × Fills (work_ran forms work place).slots items
  work_fills before (Does line) place items more mine own links (form, known, shows) numbers =
      rw known
      (act_fills form (calls_on histories line.on) conn line.on line.retry place own line.act items more
      (subst (λ (by : ConnId). ShowsAct form (calls_on histories line.on) by line.on line.retry line.act items) mine
      shows) numbers)
  work_fills before (Leaves kind on) place items more mine own links shows numbers =
      by_link place.linked refl (rw links at shows)
    where
      by_link : (b : Bool) → place.linked ≡ b
          → MatchBool b
          (Runs kind (Some (shell_ask kind cmd.Disconnect)) (calls_on histories on) conn on (step.Call 0) items)
          (items ≡ [])
          → ((work_ran forms (Leaves kind on) place).how ≡ Rests)
          × Fills (work_ran forms (Leaves kind on) place).slots items
      by_link true active runs =
          rw active
          (rw active at
          (runs_fill kind (Some (shell_ask kind cmd.Disconnect)) on (calls_on histories on) conn items (step.Call 0)
          place.linked place.left more own runs numbers))
      by_link false inactive none = rw inactive (refl, subst (Fills []) (sym none) tt)

  pub work_shows : (before : List Shown) (work : Work) (place : Place) (items : List Shown)
      → IsBy conn work → AreOwn (calls_on histories (work_on work)) conn place.left
      → is_linked_by (calls_on histories (work_on work)) conn (work_on work) before ≡ place.linked
      → (work_ran forms work place).how ≡ Rests → Fills (work_ran forms work place).slots items
      → ShowsWork forms histories conn work before items
  work_shows before (Does line) place items mine own links how fills =
      by_form (slice_get forms line.on.0) refl how fills
    where
      by_form : (o : Option StrForm) → slice_get forms line.on.0 ≡ o → (line_ran o line place).how ≡ Rests
          → Fills (line_ran o line place).slots items
          → (form : StrForm) × (slice_get forms line.on.0 ≡ Some form)
          × ShowsAct form (calls_on histories line.on) line.by line.on line.retry line.act items
      by_form None none how fills = absurd cc
      by_form (Some form) known how fills = (
        form,
        known,
        subst (λ (by : ConnId). ShowsAct form (calls_on histories line.on) by line.on line.retry line.act items)
            (sym mine)
            (act_shows form (calls_on histories line.on) conn line.on line.retry place own line.act items how fills),
      )
  work_shows before (Leaves kind on) place items mine own links how fills = by_link place.linked refl
    where
      by_link : (b : Bool) → place.linked ≡ b
          → MatchBool (is_linked_by (calls_on histories on) conn on before)
          (Runs kind (Some (shell_ask kind cmd.Disconnect)) (calls_on histories on) conn on (step.Call 0) items)
          (items ≡ [])
      by_link true active =
          let how' : (ran kind (Some (shell_ask kind cmd.Disconnect)) on (step.Call 0) true place.left).how ≡ Rests =
          rw active at how in
          let fills' : Fills (ran kind (Some (shell_ask kind cmd.Disconnect)) on (step.Call 0) true place.left).slots
          items = rw active at fills in
          rw (links, active)
          (fills_run kind (Some (shell_ask kind cmd.Disconnect)) on (calls_on histories on) conn place.left
          (step.Call 0) true items own how' fills')
      by_link false inactive = rw (links, inactive) (fills_none items (rw inactive at fills))
