-- A beginning of a transcript that is right goes on: each slot that is left is filled by what stands at the end.
use Rattle.std.proofs.Common.{◌≡◌, ℕ, zero, suc, ◌+◌, ◌*◌, ◌<◌, ◌≤◌, ◌==◌, nat_lt, Bool, true, false, List, [], ◌∷◌, ◌++◌, length, map, take, drop, Option, Some, None, slice_get, refl, sym, ap, subst, ◌∙◌, arith, append_assoc, append-nil, take-append-drop}
use Rattle.std.specs.Prelude.{All}
use Rattle.run_shown.specs.CfTypes.declared.forms.StrForm.{StrForm}
use Rattle.run_shown.specs.CfTypes.declared.numbers.ConnId.{ConnId}
use Rattle.run_shown.specs.CfTypes.declared.numbers.StrNo.{StrNo}
use Rattle.run_shown.proofs.EngineApi.Pushed.{Each, each_none, each_push}
use Rattle.run_shown.specs.PlexScript.declared.asks.AnyHistory.{AnyHistory}
use Rattle.run_shown.specs.PlexScript.declared.scripts.Script.{Script}
use Rattle.run_shown.specs.PlexScript.declared.scripts.Line.{Line}
use Rattle.run_shown.specs.PlexScript.declared.transcripts.Shown.{Shown}
use Rattle.run_shown.specs.PlexScript.Heard.{AnyCall, any_length, calls_of, calls_on, length_of, length_on, own_calls, any_calls}
use Rattle.run_shown.specs.PlexScript.Follows.{Follows, IsNote, numbers_on, surest_on}
use Rattle.run_shown.specs.Headline.{TestsTell, TellsOf, TellsBit, TellsWord, place_of, word_of}
use Rattle.run_shown.specs.Kinds.{AnyTells, IsAnyLegal, Rising, any_stands}
use Rattle.run_shown.specs.Numbers.{seen_on}
use Rattle.cf_lists.proofs.TableLaws.{get_within}
use Rattle.caller_slots.specs.Works.{Work, works_of}
use Rattle.caller_slots.specs.Slots.{Slot, Calls, Tests, Words, Outside, Posts, Takes, FillsOne, Fills, AreNotes, AreUsed, Ends, slots_of, places_of, IsFilled}
use Rattle.caller_slots.proofs.Walks.{AreRight, fills_join, fills_work, numbers_of}
use Rattle.caller_slots.proofs.SlotLaws.{begins_at, works_right, of_left, filled_works}
use Rattle.caller_slots.proofs.FollowLaws.{works_follow}
use Rattle.caller_slots.specs.Asked.{IsAskedIn, AreAsked}
use Rattle.caller_slots.proofs.Points.{AreUpTo, AreCallsUpTo, any_calls_up, any_tells_end, legal_point}
use Rattle.caller_slots.proofs.InSlots.{slot_on, BeginsWithin, AreIn, in-append, in-behind, in-front, AreAtStructures, whole_in}
use Rattle.caller_slots.proofs.Bounds.{IsWithin, AreWithin, within-append, own_up, seen_up}

-- what holds of items one behind another
abbrev Behind : (List Shown → Shown → Type 0) → List Shown → List Shown → Type 0
Behind Q before [] = Unit {0}
Behind Q before (item ∷ items) = Q before item × Behind Q (before ++ item ∷ []) items

behind_each : (Q : List Shown → Shown → Type 0) (front back : List Shown) → Each Q front → Behind Q front back
    → Each Q (front ++ back)
behind_each Q front [] each behind = subst (Each Q) (sym (append-nil front)) each
behind_each Q front (item ∷ back) each behind = subst (Each Q) (append_assoc front (item ∷ []) back)
    (behind_each Q (front ++ item ∷ []) back (each_push Q front item each behind.0) behind.1)

asked-behind : (xs ys : List Slot) → AreAsked (xs ++ ys) → AreAsked ys
asked-behind [] ys h = h
asked-behind (x ∷ xs) ys h = asked-behind xs ys h.1

module _ (script : Script) (histories : List AnyHistory) (conn : ConnId)
    (long : length histories ≡ length script.structures)
    (known : All (λ line. line.on.0 < length script.structures) script.lines)
    (rise : (on : StrNo) → Rising 0 (calls_on histories on))
    (legal : (x : ℕ) (form : StrForm) (entries : AnyHistory) → slice_get script.structures x ≡ Some form
    → slice_get histories x ≡ Some entries → IsAnyLegal form entries) where
  abbrev forms : List StrForm
  forms = script.structures

  -- ---- what stands at the end

  abbrev bit_of : Option StrForm → Option AnyHistory → ℕ → Bool
  bit_of (Some form) (Some entries) index = any_stands form entries conn index
  bit_of _ _ index = false

  abbrev word_in : Option StrForm → Option AnyHistory → ℕ → ℕ
  word_in (Some form) (Some entries) word = word_of form.vector word (λ k. any_stands form entries conn (32 * word + k))
  word_in _ _ word = 0

  abbrev finish : Slot → Shown
  finish (Calls on asked call) = Shown.Call on call.no
  finish (Tests on index) = Shown.Test on index (bit_of (slice_get forms on.0) (slice_get histories on.0) index)
      (length_on histories on)
  finish (Words on word) = Shown.Word on word (word_in (slice_get forms on.0) (slice_get histories on.0) word)
      (length_on histories on)
  finish (Outside on index word len) = Shown.BadIndex on index word len
  finish (Posts on) = Shown.Posted on (length_on histories on)
  finish (Takes on) = Shown.Took on (length_on histories on)

  finish_fits : (slot : Slot) → IsAskedIn slot → FillsOne slot (finish slot)
  finish_fits (Calls on asked call) is = (refl, is)
  finish_fits (Tests on index) is = (
    bit_of (slice_get forms on.0) (slice_get histories on.0) index,
    (length_on histories on, refl),
  )
  finish_fits (Words on word) is = (
    word_in (slice_get forms on.0) (slice_get histories on.0) word,
    (length_on histories on, refl),
  )
  finish_fits (Outside on index word len) is = refl
  finish_fits (Posts on) is = (length_on histories on, refl)
  finish_fits (Takes on) is = (length_on histories on, refl)

  finish_fills : (slots : List Slot) → AreAsked slots → Fills slots (map finish slots)
  finish_fills [] asked = tt
  finish_fills (slot ∷ slots) asked = (finish_fits slot asked.0, finish_fills slots asked.1)

  finish_within : (slots : List Slot) → AreWithin histories (map finish slots)
  finish_within [] = tt
  finish_within (Calls on asked call ∷ slots) = (tt, finish_within slots)
  finish_within (Tests on index ∷ slots) = (omega arith, finish_within slots)
  finish_within (Words on word ∷ slots) = (omega arith, finish_within slots)
  finish_within (Outside on index word len ∷ slots) = (tt, finish_within slots)
  finish_within (Posts on ∷ slots) = (omega arith, finish_within slots)
  finish_within (Takes on ∷ slots) = (omega arith, finish_within slots)

  -- ---- what is right of an item

  pub record IsRight (before : List Shown) (item : Shown) : Type 0 where
    pub note : IsNote histories before item
    pub tells : (form : StrForm) (entries : AnyHistory) → slice_get forms (place_of item).0 ≡ Some form
        → slice_get histories (place_of item).0 ≡ Some entries
        → TellsOf form entries conn (place_of item) before item

  abbrev Seen : List Shown → StrNo → Type 0
  Seen before on = (seen_on on before ≤ length_on histories on) × (surest_on on before ≤ length_on histories on)

  end_is : (on : StrNo) (entries : AnyHistory) → slice_get histories on.0 ≡ Some entries
      → length_on histories on ≡ any_length entries
  end_is on entries there = rw there refl

  finish_right : (before : List Shown) (slot : Slot) → Seen before (slot_on slot) → IsRight before (finish slot)
  finish_right before (Calls on asked call) seen = record { note = tt; tells = λ form entries known there. tt }
  finish_right before (Outside on index word len) seen = record { note = tt; tells = λ form entries known there. tt }
  finish_right before (Posts on) seen =
      record { note = (seen.1, omega arith); tells = λ form entries known there. tt }
  finish_right before (Takes on) seen =
      record { note = (seen.1, omega arith); tells = λ form entries known there. tt }
  finish_right before (Tests on index) seen = record {
    note = tt;
    tells = λ form entries known there. (
        let at : length_on histories on ≡ any_length entries = end_is on entries there in
        let told : AnyTells form entries (any_length entries) (surest_on on before) conn index
        (any_stands form entries conn index) = any_tells_end form entries (surest_on on before) conn index
        (legal on.0 form entries known there) (subst (λ (n : ℕ). surest_on on before ≤ n) at seen.1) in
        rw (known, there) (record {
          seen = subst (λ (n : ℕ). seen_on on before ≤ n) at seen.0;
          tells = told;
        }));
  }
  finish_right before (Words on word) seen = record {
    note = tt;
    tells = λ form entries known there. (
        let at : length_on histories on ≡ any_length entries = end_is on entries there in
        rw (known, there) (record {
          bits = λ k. any_stands form entries conn (32 * word + k);
          made = refl;
          each = λ k low within. record {
            seen = subst (λ (n : ℕ). seen_on on before ≤ n) at seen.0;
            tells = any_tells_end form entries (surest_on on before) conn (32 * word + k) (legal on.0 form entries
                known there) (subst (λ (n : ℕ). surest_on on before ≤ n) at seen.1);
          };
        }));
  }

  rest_right : (many : ℕ) (all before : List Shown) (slots : List Slot) → ((on : StrNo) (front back : List Shown)
      → on.0 < many → front ++ back ≡ all → Seen front on) → before ++ map finish slots ≡ all → AreIn forms many slots
      → Behind IsRight before (map finish slots)
  rest_right many all before [] seen e in_ = tt
  rest_right many all before (slot ∷ slots) seen e in_ = (
    finish_right before slot (seen (slot_on slot) before (map finish (slot ∷ slots)) in_.0 e),
    rest_right many all (before ++ finish slot ∷ []) slots seen
        (append_assoc before (finish slot ∷ []) (map finish slots) ∙ e) in_.2,
  )

  -- ---- what is within, of the items that stand

  history_at : (on : StrNo) → on.0 < length forms → (form : StrForm) × ((entries : AnyHistory)
      × (slice_get forms on.0 ≡ Some form) × (slice_get histories on.0 ≡ Some entries))
  history_at on few =
      let form = get_within forms on.0 few in
      let entries = get_within histories on.0 (omega (arith, few, long)) in
      (form.0, (entries.0, form.1, entries.1))

  item_within : (before : List Shown) (slot : Slot) (item : Shown) → FillsOne slot item → IsRight before item
      → (slot_on slot).0 < length forms → BeginsWithin forms slot → IsWithin histories item
  item_within before (Calls on asked call) item fits right few begins = subst (IsWithin histories) (sym fits.0) tt
  item_within before (Outside on index word len) item fits right few begins = subst (IsWithin histories) (sym fits) tt
  item_within before (Posts on) item (sure, is) right few begins =
      let note = subst (IsNote histories before) is right.note in subst (IsWithin histories) (sym is) note.1
  item_within before (Takes on) item (sure, is) right few begins =
      let note = subst (IsNote histories before) is right.note in subst (IsWithin histories) (sym is) note.1
  item_within before (Tests on index) item (bit, (at, is)) right few begins =
      let it = history_at on few in
      let right' = subst (IsRight before) is right in
      let told = right'.tells it.0 it.1.0 it.1.1 it.1.2 in
      let low : at ≤ any_length it.1.0 = legal_point it.0 it.1.0 at (surest_on on before) conn index bit
      (legal on.0 it.0 it.1.0 it.1.1 it.1.2) told.tells in
      subst (IsWithin histories) (sym is) (subst (λ (n : ℕ). at ≤ n) (sym (end_is on it.1.0 it.1.2)) low)
  item_within before (Words on word) item (bits, (at, is)) right few (form, known', begins) =
      let it = history_at on few in
      let right' = subst (IsRight before) is right in
      let told = right'.tells form it.1.0 known' it.1.2 in
      let first = told.each 0 (omega arith) (omega (arith, begins)) in
      let low : at ≤ any_length it.1.0 = legal_point form it.1.0 at (surest_on on before) conn (32 * word + 0)
      (told.bits 0) (legal on.0 form it.1.0 known' it.1.2) first.tells in
      subst (IsWithin histories) (sym is) (subst (λ (n : ℕ). at ≤ n) (sym (end_is on it.1.0 it.1.2)) low)

  items_within : (before : List Shown) (slots : List Slot) (items : List Shown) → Fills slots items
      → Behind IsRight before items → AreIn forms (length forms) slots → AreWithin histories items
  items_within before [] [] fills right in_ = tt
  items_within before [] (item ∷ items) fills right in_ = absurd fills
  items_within before (slot ∷ slots) [] fills right in_ = absurd fills
  items_within before (slot ∷ slots) (item ∷ items) fills right in_ = (
    item_within before slot item fills.0 right.0 in_.0 in_.1,
    items_within (before ++ item ∷ []) slots items fills.1 right.1 in_.2,
  )

  behind_from : (whole before items : List Shown) → Each IsRight whole → before ++ items ≡ whole
      → Behind IsRight before items
  behind_from whole before [] each e = tt
  behind_from whole before (item ∷ items) each e =
      let at : slice_get whole (length before) ≡ Some item = subst (λ (w : List Shown). slice_get w (length before)
      ≡ Some item) e (seam before item items) in
      let front : take (length before) whole ≡ before =
      subst (λ (w : List Shown). take (length before) w ≡ before) e (cut before (item ∷ items)) in (
        subst (λ (b : List Shown). IsRight b item) front (each (length before) item at),
        behind_from whole (before ++ item ∷ []) items each (append_assoc before (item ∷ []) items ∙ e),
      )
    where
      seam : (xs : List Shown) (x : Shown) (ys : List Shown) → slice_get (xs ++ x ∷ ys) (length xs) ≡ Some x
      seam [] x ys = refl
      seam (y ∷ xs) x ys = seam xs x ys

      cut : (xs ys : List Shown) → take (length xs) (xs ++ ys) ≡ xs
      cut [] ys = refl
      cut (x ∷ xs) ys = ap (λ (l : List Shown). x ∷ l) (cut xs ys)

  -- ---- the slots are at structures of the script, and calls are within

  at_structures : (works : List Work) → AreRight forms histories conn (length forms) rise works
      → AreAtStructures forms (length forms) works
  at_structures [] right = tt
  at_structures (work ∷ works) right = (right.0.1, at_structures works right.1)

  abbrev slots : List Slot
  slots = (slots_of script histories conn).slots

  slots_in : AreIn forms (length forms) slots
  slots_in = whole_in forms (length forms) (works_of script conn) (places_of histories conn)
      (at_structures (works_of script conn) (works_right script histories conn long known rise))

  calls_up : (on : StrNo) → on.0 < length forms → AreCallsUpTo (length_on histories on) (calls_on histories on)
  calls_up on few =
      let it = history_at on few in
      let here : AreCallsUpTo (any_length it.1.0) (any_calls it.1.0) =
      any_calls_up it.0 it.1.0 (legal on.0 it.0 it.1.0 it.1.1 it.1.2) in
      rw it.1.2 here

  module _ (ends : (slots_of script histories conn).end ≡ Ends) (used : AreUsed (slots_of script histories conn).places)
    where
      numbers_up : (all : List Shown) → Fills slots all → (on : StrNo) → on.0 < length forms
          → AreUpTo (length_on histories on) (numbers_on on all)
      numbers_up all fills on few =
          let both = fills_work forms histories conn (length forms) rise (works_of script conn) [] (places_of histories
          conn) all (works_right script histories conn long known rise) (begins_at script histories conn long known rise)
          ends fills used in
          let numbers : numbers_on on all ≡ numbers_of (own_calls (calls_on histories on) conn) =
          of_left script histories conn long known rise all both.1 on (omega (arith, few, long)) in
          subst (AreUpTo (length_on histories on)) (sym numbers)
          (own_up (length_on histories on) (calls_on histories on) conn (calls_up on few))

      -- ---- the law

      pub goes_on : (items : List Shown) → AreAsked slots → Fills (take (length items) slots) items
          → AreNotes histories items → TestsTell forms histories conn items
          → (more : List Shown) × Follows script histories conn (items ++ more)
          × TestsTell forms histories conn (items ++ more)
      goes_on items asked fills notes tests =
          let n = length items in
          let first : List Slot = take n slots in
          let rest : List Slot = drop n slots in
          let split : first ++ rest ≡ slots = take-append-drop n slots in
          let more : List Shown = map finish rest in
          let all : List Shown = items ++ more in
          let asked' : AreAsked rest = asked-behind first rest (subst AreAsked (sym split) asked) in
          let at : AreIn forms (length forms) (first ++ rest) =
          subst (AreIn forms (length forms)) (sym split) slots_in in
          let fills_all : Fills slots all = subst (λ (s : List Slot). Fills s all) split
          (fills_join first rest items more fills (finish_fills rest asked')) in
          let each : Each IsRight items = λ k item e. record {
            note = notes k item e;
            tells = λ form entries known there. tests k item form entries e known there;
          } in
          let within : AreWithin histories items = items_within [] first items fills (behind_from items [] items each
          refl) (in-front forms (length forms) first rest at) in
          let within_all : AreWithin histories all = within-append histories items more within (finish_within rest) in
          let seen : (on : StrNo) (front back : List Shown) → on.0 < length forms → front ++ back ≡ all → Seen front on =
          λ on front back few e. seen_up histories on front back (subst (AreWithin histories) (sym e) within_all)
          (subst (λ (l : List Shown). AreUpTo (length_on histories on) (numbers_on on l)) (sym e)
          (numbers_up all fills_all on few)) in
          let each_all : Each IsRight all = behind_each IsRight items more each (rest_right (length forms) all items rest
          seen refl (in-behind forms (length forms) first rest at)) in
          let filled : IsFilled script histories conn all = record {
            ends = ends;
            fills = fills_all;
            used = used;
            notes = λ k item e. (let right = each_all k item e in right.note);
          } in (
            more,
            works_follow script histories conn all (filled_works script histories conn long known rise all filled),
            λ k item form entries e known there. (let right = each_all k item e in right.tells form entries known there),
          )
