-- What a command on records does to queues is what it does at the two sublists that it may turn.
use Rattle.std.proofs.Common.{◌≡◌, ℕ, ◌==◌, Bool, true, false, not, ◌&&◌, ◌||◌, cond, List, [], ◌∷◌, length, arith, filter, fold, Option, None, Some, refl, sym, ap, subst, ◌∙◌}
use Rattle.std.proofs.lemmas.Bool.{and_parts, eqb-true, false≢true}
use Rattle.std.proofs.lemmas.Bool.Decides.{nat_tests}
use Rattle.std.proofs.lemmas.List.Elements.{filter_agree}
use Rattle.cf_types.specs.declared.forms.Caps.{Caps}
use Rattle.cf_types.specs.declared.list_commands.ListCmd.{ListCmd}
use Rattle.cf_types.specs.declared.names.Key16.{Key16}
use Rattle.cf_types.specs.declared.numbers.ConnId.{ConnId}
use Rattle.cf_lists.proofs.FilterLaws.{filter_all, filter_nothing, list_all_always}
use Rattle.engine_api.specs.declared.shapes.Shape.{Shape}
use Rattle.list_model.specs.declared.sublists.Sublist.{Sublist}
use Rattle.list_model.specs.declared.sublists.Turning.{Turning}
use Rattle.list_model.specs.Contents.{Content, IsContent}
use Rattle.list_model.specs.Keys.{same_key}
use Rattle.list_model.specs.ListStore.Lists.{Lists}
use Rattle.list_model.specs.Step.{cause, after}
use Rattle.list_model.specs.Sublists.{is_there, turning, is_sublist, may_turn}
use Rattle.list_model.proofs.SublistLaws.{turns-only, fills-there, empties-there}
use Rattle.queue_model.specs.declared.subs.Sub.{Sub}
use Rattle.queue_model.specs.ListQueues.{filled_in}
use Rattle.queue_model.specs.Queues.{Queued, no_queues, is_newly, is_emptied, stays, settled, with_event}
use Rattle.queue_model.specs.Turns.{is_of, emptied_at, filled_at, turned, unfilled, no_turn, turning_new, is_idle, turn_for}
use Rattle.queue_model.proofs.SubLaws.{keys_same}

-- ---- tests

not_both : (b : Bool) → not b && b ≡ false
not_both true = refl
not_both false = refl

both_not : (b : Bool) → b && not b ≡ false
both_not true = refl
both_not false = refl

and_none : (b : Bool) → b && false ≡ false
and_none true = refl
and_none false = refl

neither : (a b : Bool) → a ≡ false → b ≡ false → a || b ≡ false
neither true b e f = e
neither false b e f = f

-- ---- with what is known of the two sublists

module _ (lists behind : Lists) (turn : Turning)
    (fills : (h : ℕ) (k : Key16) → is_sublist turn.fills h k ≡ true → is_there behind h k ≡ true)
    (empties : (h : ℕ) (k : Key16) → is_sublist turn.empties h k ≡ true → is_there lists h k ≡ true)
    (others : (h : ℕ) (k : Key16) → may_turn turn h k ≡ false → is_there behind h k ≡ is_there lists h k) where
  -- one that isn't filled isn't newly there, and one that isn't emptied doesn't go
  not_newly : (h : ℕ) (k : Key16) → is_sublist turn.fills h k ≡ false
      → not (is_there lists h k) && is_there behind h k ≡ false
  not_newly h k out = go (is_sublist turn.empties h k) refl
    where
      go : (b : Bool) → is_sublist turn.empties h k ≡ b → not (is_there lists h k) && is_there behind h k ≡ false
      go true e = ap (λ (c : Bool). not c && is_there behind h k) (empties h k e)
      go false e = ap (λ (c : Bool). not (is_there lists h k) && c) (others h k
          (neither (is_sublist turn.empties h k) (is_sublist turn.fills h k) e out)) ∙ not_both (is_there lists h k)

  not_gone : (h : ℕ) (k : Key16) → is_sublist turn.empties h k ≡ false
      → is_there lists h k && not (is_there behind h k) ≡ false
  not_gone h k out = go (is_sublist turn.fills h k) refl
    where
      go : (b : Bool) → is_sublist turn.fills h k ≡ b → is_there lists h k && not (is_there behind h k) ≡ false
      go true e = ap (λ (c : Bool). is_there lists h k && not c) (fills h k e) ∙ and_none (is_there lists h k)
      go false e = ap (λ (c : Bool). is_there lists h k && not c) (others h k
          (neither (is_sublist turn.empties h k) (is_sublist turn.fills h k) out e)) ∙ both_not (is_there lists h k)

  -- a sublist that is this one is there where this one is
  same_there : (in_lists : Lists) (it : Sublist) (sub : Sub) → is_of it sub ≡ true
      → is_there in_lists sub.header sub.key ≡ is_there in_lists it.header it.key
  same_there in_lists it sub e =
      let parts = and_parts (it.header == sub.header) (same_key it.key sub.key) e in
      ap (λ (n : ℕ). is_there in_lists n sub.key) (sym (eqb-true it.header sub.header parts.0))
      ∙ ap (λ (k : Key16). is_there in_lists it.header k) (sym (keys_same it.key sub.key parts.1))

  unfilled_out : (b : Bool) (it : Sublist) (sub : Sub) → is_of it sub ≡ false
      → is_sublist (cond b None (Some it)) sub.header sub.key ≡ false
  unfilled_out true it sub e = refl
  unfilled_out false it sub e = e

  unfilled_in : (b : Bool) (it : Sublist) (sub : Sub) → is_of it sub ≡ true
      → is_sublist (cond b None (Some it)) sub.header sub.key ≡ not b
  unfilled_in true it sub e = refl
  unfilled_in false it sub e = e

  and_true : (b : Bool) → b && true ≡ b
  and_true true = refl
  and_true false = refl

  newly_at : (it : Option Sublist) → turn.fills ≡ it → (sub : Sub)
      → is_newly (is_there lists) (is_there behind) sub ≡ is_sublist (unfilled lists it) sub.header sub.key
  newly_at None is sub =
      not_newly sub.header sub.key (ap (λ (o : Option Sublist). is_sublist o sub.header sub.key) is)
  newly_at (Some it) is sub = go (is_of it sub) refl
    where
      go : (b : Bool) → is_of it sub ≡ b
          → is_newly (is_there lists) (is_there behind) sub ≡ is_sublist (unfilled lists (Some it)) sub.header sub.key
      go true e =
          ap (λ (c : Bool). not (is_there lists sub.header sub.key) && c) (fills sub.header sub.key
          (ap (λ (o : Option Sublist). is_sublist o sub.header sub.key) is ∙ e))
          ∙ and_true (not (is_there lists sub.header sub.key))
          ∙ ap not (same_there lists it sub e) ∙ sym (unfilled_in (is_there lists it.header it.key) it sub e)
      go false e =
          not_newly sub.header sub.key (ap (λ (o : Option Sublist). is_sublist o sub.header sub.key) is ∙ e)
          ∙ sym (unfilled_out (is_there lists it.header it.key) it sub e)

  -- ---- events

  abbrev with_events : Queued → List Sub → Queued
  with_events queued events = record { monitors = queued.monitors; events = events }

  all_stay : (events : List Sub)
      → ((sub : Sub) → is_emptied (is_there lists) (is_there behind) sub ≡ false)
      → events ≡ filter (stays (is_there lists) (is_there behind)) events
  all_stay events none = sym (filter_all (stays (is_there lists) (is_there behind)) events
      (list_all_always (stays (is_there lists) (is_there behind)) (λ sub. ap not (none sub)) events))

  emptied_is : (it : Option Sublist) → turn.empties ≡ it → (queued : Queued)
      → emptied_at behind it queued
      ≡ with_events queued (filter (stays (is_there lists) (is_there behind)) queued.events)
  emptied_is None is queued = ap (with_events queued) (all_stay queued.events (λ sub.
      not_gone sub.header sub.key (ap (λ (o : Option Sublist). is_sublist o sub.header sub.key) is)))
  emptied_is (Some it) is queued = go (is_there behind it.header it.key) refl
    where
      out : (sub : Sub) → is_of it sub ≡ false → is_emptied (is_there lists) (is_there behind) sub ≡ false
      out sub e = not_gone sub.header sub.key (ap (λ (o : Option Sublist). is_sublist o sub.header sub.key) is ∙ e)

      in_it : (sub : Sub) → is_of it sub ≡ true
          → is_emptied (is_there lists) (is_there behind) sub ≡ not (is_there behind it.header it.key)
      in_it sub e = ap (λ (c : Bool). c && not (is_there behind sub.header sub.key)) (empties sub.header sub.key
          (ap (λ (o : Option Sublist). is_sublist o sub.header sub.key) is ∙ e))
          ∙ ap not (same_there behind it sub e)

      still : is_there behind it.header it.key ≡ true → (sub : Sub) (b : Bool) → is_of it sub ≡ b
          → is_emptied (is_there lists) (is_there behind) sub ≡ false
      still there sub true e = in_it sub e ∙ ap not there
      still there sub false e = out sub e

      gone : is_there behind it.header it.key ≡ false → (sub : Sub) (b : Bool) → is_of it sub ≡ b
          → not (is_of it sub) ≡ stays (is_there lists) (is_there behind) sub
      gone none sub true e = ap not e ∙ sym (ap not (in_it sub e ∙ ap not none))
      gone none sub false e = ap not e ∙ sym (ap not (out sub e))

      go : (b : Bool) → is_there behind it.header it.key ≡ b
          → cond b queued (with_events queued (filter (λ sub. not (is_of it sub)) queued.events))
          ≡ with_events queued (filter (stays (is_there lists) (is_there behind)) queued.events)
      go true there = ap (with_events queued) (all_stay queued.events (λ sub. still there sub (is_of it sub) refl))
      go false none = ap (with_events queued) (filter_agree (λ sub. not (is_of it sub))
          (stays (is_there lists) (is_there behind)) (λ sub. gone none sub (is_of it sub) refl) queued.events)

  filled_is : (it : Option Sublist) → ((sub : Sub) → is_newly (is_there lists) (is_there behind) sub
      ≡ is_sublist it sub.header sub.key) → (queued : Queued) → filled_at it queued
      ≡ with_events queued
      (fold with_event queued.events (filter (is_newly (is_there lists) (is_there behind)) queued.monitors))
  filled_is None newly queued =
      ap (λ (l : List Sub). with_events queued (fold with_event queued.events l))
      (sym (filter_agree (is_newly (is_there lists) (is_there behind)) (λ sub. false) newly queued.monitors
      ∙ filter_nothing queued.monitors))
  filled_is (Some it) newly queued =
      ap (λ (l : List Sub). with_events queued (fold with_event queued.events l))
      (sym (filter_agree (is_newly (is_there lists) (is_there behind)) (is_of it) newly queued.monitors))

  settled_is : (queued : Queued) → settled (is_there lists) (is_there behind) queued
      ≡ turned behind (turning_new lists turn) queued
  settled_is queued =
      sym (ap (λ (q : Queued). filled_at (unfilled lists turn.fills) q) (emptied_is turn.empties refl queued)
      ∙ filled_is (unfilled lists turn.fills) (newly_at turn.fills refl)
      (with_events queued (filter (stays (is_there lists) (is_there behind)) queued.events)))

-- ---- of commands

idle_is : (queued : Queued) → is_idle queued ≡ true → queued ≡ no_queues
idle_is queued idle = go queued.monitors queued.events idle
  where
    go : (monitors events : List Sub) → (length monitors == 0) && (length events == 0) ≡ true
        → Path Queued (record { monitors = monitors; events = events }) no_queues
    go [] [] e = refl
    go [] (x ∷ events) e = absurd (false≢true (grind (arith, nat_tests)))
    go (x ∷ monitors) events e = absurd (false≢true (grind (arith, nat_tests)))

pub settled-turned : (shape : Shape) (caps : Caps) (content : Content) (by : ConnId) (cmd : ListCmd)
    (queued : Queued) → IsContent shape caps content → cause shape caps content by cmd ≡ None
    → settled (filled_in content) (filled_in (after content by cmd)) queued
    ≡ turned (after content by cmd).lists (turn_for queued content cmd) queued
settled-turned shape caps content by cmd queued is none = go (is_idle queued) refl
  where
    behind : Lists
    behind = (after content by cmd).lists

    go : (b : Bool) → is_idle queued ≡ b
        → settled (filled_in content) (filled_in (after content by cmd)) queued
        ≡ turned behind (cond b no_turn (turning_new content.lists (turning content cmd))) queued
    go true idle = subst (λ (q : Queued). settled (filled_in content) (filled_in (after content by cmd)) q ≡ q)
        (sym (idle_is queued idle)) refl
    go false busy = settled_is content.lists behind (turning content cmd)
        (fills-there shape caps content by cmd is none) (empties-there shape caps content by cmd is none)
        (turns-only shape caps content by cmd is none) queued
