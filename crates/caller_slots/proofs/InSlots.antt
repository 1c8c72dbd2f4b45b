-- The slots of a caller's works are at structures of the script, and a word's begins within the vector.
use Rattle.std.proofs.Common.{◌≡◌, ℕ, ◌*◌, ◌<◌, Bool, true, false, nat_lt, List, [], ◌∷◌, ◌++◌, length, Option, Some, None, slice_get, slice_set, refl, sym, subst, arith, cond}
use Rattle.std.proofs.lemmas.Bool.Decides.{nat_tests}
use Rattle.run_shown.specs.CfTypes.declared.forms.Kind.{Kind}
use Rattle.run_shown.specs.CfTypes.declared.forms.StrForm.{StrForm}
use Rattle.run_shown.specs.CfTypes.declared.numbers.StrNo.{StrNo}
use Rattle.run_shown.specs.CfTypes.declared.shell_commands.ShellCmd.{ShellCmd}
use Rattle.run_shown.specs.PlexScript.declared.agents.Step.{Step}
use Rattle.run_shown.specs.PlexScript.declared.scripts.AnyAsk.{AnyAsk}
use Rattle.run_shown.specs.PlexScript.declared.scripts.Act.{Act}
use Rattle.run_shown.specs.PlexScript.declared.scripts.Line.{Line}
use Rattle.run_shown.specs.PlexScript.Agent.{first_step, step_after, asked_by, shell_ask}
use Rattle.run_shown.specs.PlexScript.Heard.{AnyCall, link_after}
use Rattle.caller_slots.specs.Works.{Work, Does, Leaves, work_on}
use Rattle.caller_slots.specs.Slots.{Slot, Calls, Tests, Words, Outside, Posts, Takes, Place, place_at, How, Rests, Wants, Ran, is_rest, with_slot, ran, act_ran, line_ran, work_ran, Whole, after_work, whole}

-- the structure of a slot
abbrev pub slot_on : Slot → StrNo
slot_on (Calls on asked call) = on
slot_on (Tests on index) = on
slot_on (Words on word) = on
slot_on (Outside on index word len) = on
slot_on (Posts on) = on
slot_on (Takes on) = on

abbrev pub BeginsWithin : List StrForm → Slot → Type 0
BeginsWithin forms (Words on word) = (form : StrForm) × (slice_get forms on.0 ≡ Some form) × (32 * word < form.vector)
BeginsWithin forms (Calls on asked call) = Unit {0}
BeginsWithin forms (Tests on index) = Unit {0}
BeginsWithin forms (Outside on index word len) = Unit {0}
BeginsWithin forms (Posts on) = Unit {0}
BeginsWithin forms (Takes on) = Unit {0}

abbrev pub AreIn : List StrForm → ℕ → List Slot → Type 0
AreIn forms many [] = Unit {0}
AreIn forms many (slot ∷ slots) = ((slot_on slot).0 < many) × BeginsWithin forms slot × AreIn forms many slots

pub in-append : (forms : List StrForm) (many : ℕ) (xs ys : List Slot) → AreIn forms many xs → AreIn forms many ys
    → AreIn forms many (xs ++ ys)
in-append forms many [] ys h k = k
in-append forms many (x ∷ xs) ys h k = (h.0, h.1, in-append forms many xs ys h.2 k)

pub in-behind : (forms : List StrForm) (many : ℕ) (xs ys : List Slot) → AreIn forms many (xs ++ ys)
    → AreIn forms many ys
in-behind forms many [] ys h = h
in-behind forms many (x ∷ xs) ys h = in-behind forms many xs ys h.2

pub in-front : (forms : List StrForm) (many : ℕ) (xs ys : List Slot) → AreIn forms many (xs ++ ys)
    → AreIn forms many xs
in-front forms many [] ys h = tt
in-front forms many (x ∷ xs) ys h = (h.0, h.1, in-front forms many xs ys h.2)

module _ (forms : List StrForm) (many : ℕ) where
  abbrev In : List Slot → Type 0
  In slots = AreIn forms many slots

  ran_in : (kind : Kind) (line : Option AnyAsk) (on : StrNo) (now : Step) (linked : Bool) (calls : List AnyCall)
      → on.0 < many → In (ran kind line on now linked calls).slots
  ran_in kind line on now linked [] few = tt
  ran_in kind line on now linked (call ∷ calls) few =
      by_rest (is_rest now) (ran_in kind line on (step_after now call.told) (link_after linked call) calls few)
    where
      by_rest : (b : Bool) → In (ran kind line on (step_after now call.told) (link_after linked call) calls).slots
          → In (cond b (record { slots = []; place = record { linked = linked; left = call ∷ calls }; how = Rests })
          (with_slot (Calls on (asked_by kind line now) call)
          (ran kind line on (step_after now call.told) (link_after linked call) calls))).slots
      by_rest true rest = tt
      by_rest false rest = (few, tt, rest)

  act_in : (form : StrForm) (on : StrNo) (retry : ℕ) (done : Act) (place : Place) → on.0 < many
      → slice_get forms on.0 ≡ Some form → In (act_ran form on retry done place).slots
  act_in form on retry (Act.Call asked) place few known =
      ran_in form.kind (Some asked) on (Step.Call retry) place.linked place.left few
  act_in form on retry Act.Events place few known =
      ran_in form.kind None on (first_step Act.Events retry) place.linked place.left few
  act_in form on retry (Act.Test index) place few known = by_test (nat_lt index form.vector)
    where
      by_test : (b : Bool) → In (cond b (Tests on index) (Outside on index false form.vector) ∷ [])
      by_test true = (few, tt, tt)
      by_test false = (few, tt, tt)
  act_in form on retry (Act.TestWord word) place few known = by_test (nat_lt (32 * word) form.vector) refl
    where
      by_test : (b : Bool) → nat_lt (32 * word) form.vector ≡ b
          → In (cond b (Words on word) (Outside on word true form.vector) ∷ [])
      by_test true is = let within : 32 * word < form.vector = grind (arith, nat_tests) in
          (few, (form, known, within), tt)
      by_test false is = (few, tt, tt)
  act_in form on retry Act.Post place few known = (few, tt, tt)
  act_in form on retry Act.Take place few known = (few, tt, tt)

  line_in : (o : Option StrForm) (line : Line) (place : Place) → line.on.0 < many → slice_get forms line.on.0 ≡ o
      → In (line_ran o line place).slots
  line_in None line place few known = tt
  line_in (Some form) line place few known = act_in form line.on line.retry line.act place few known

  work_in : (work : Work) (place : Place) → (work_on work).0 < many → In (work_ran forms work place).slots
  work_in (Does line) place few = line_in (slice_get forms line.on.0) line place few refl
  work_in (Leaves kind on) place few = by_link place.linked refl
    where
      by_link : (b : Bool) → place.linked ≡ b → In (cond b (ran kind (Some (shell_ask kind ShellCmd.Disconnect)) on
          (Step.Call 0) place.linked place.left) (record { slots = []; place = place; how = Rests })).slots
      by_link true is = ran_in kind _ on (Step.Call 0) place.linked place.left few
      by_link false is = tt

  -- works at structures of the script
  abbrev pub AreAtStructures : List Work → Type 0
  AreAtStructures [] = Unit {0}
  AreAtStructures (work ∷ works) = ((work_on work).0 < many) × AreAtStructures works

  pub whole_in : (works : List Work) (places : List Place) → AreAtStructures works → In (whole forms works places).slots
  whole_in [] places at = tt
  whole_in (work ∷ works) places at =
      let done = work_ran forms work (place_at places (work_on work)) in
      let next = slice_set places (work_on work).0 done.place in
      by_how done.how next (work_in work (place_at places (work_on work)) at.0) (whole_in works next at.1)
    where
      by_how : (how : How) (next : List Place) → In (work_ran forms work (place_at places (work_on work))).slots
          → In (whole forms works next).slots
          → In (after_work how (work_on work) (work_ran forms work (place_at places (work_on work))).slots next
          (whole forms works next)).slots
      by_how Rests next here more =
          in-append forms many (work_ran forms work (place_at places (work_on work))).slots
          (whole forms works next).slots here more
      by_how (Wants asked) next here more = here
