-- The waits of a structure rise, where no test is before what was seen.
use Rattle.std.proofs.Common.{◌≡◌, ℕ, zero, suc, ◌+◌, ◌*◌, ◌<◌, ◌≤◌, ◌==◌, max, inl, inr, Bool, true, false, if◌then◌else◌, List, [], ◌∷◌, ◌++◌, take, slice_get, Some, refl, sym, ap, subst, ◌∙◌, arith, append_assoc, append-nil, nat_lt, Option, None}
use Rattle.caller_slots.specs.RunShown.CfTypes.declared.numbers.StrNo.{StrNo}
use Rattle.caller_slots.specs.RunShown.PlexScript.declared.transcripts.Shown.{Shown}
use Rattle.caller_slots.specs.RunShown.PlexScript.Follows.{surest_on}
use Rattle.caller_slots.specs.RunShown.Headline.{place_of}
use Rattle.caller_slots.specs.RunShown.Numbers.{seen_on, shown_on}
use Rattle.caller_slots.proofs.Own.{same_place}
use Rattle.caller_items.specs.Orders.{IsSeen}
use Rattle.caller_items.proofs.OrderLaws.{also, push_max}
use Rattle.vector_waits.specs.declared.wait.Wait.{Wait}
use Rattle.vector_waits.specs.Waits.{AreRising}
use Rattle.caller_waits.specs.Tests.{wait_of, own_bit, word_waits, item_waits, waits_at, waits_of}

-- each number isn't below the one before it, nor below this
abbrev Climb : ℕ → List Wait → Type 0
Climb low [] = Unit {0}
Climb low (wait ∷ waits) = (low ≤ wait.at) × Climb wait.at waits

climb_lower : (low high : ℕ) (waits : List Wait) → low ≤ high → Climb high waits → Climb low waits
climb_lower low high [] less climb = tt
climb_lower low high (wait ∷ waits) less climb =
    let first : high ≤ wait.at = climb.0 in (omega (arith, less, first), climb.1)

above : (low : ℕ) (waits : List Wait) (j : ℕ) (y : Wait) → Climb low waits → slice_get waits j ≡ Some y → low ≤ y.at
above low [] j y climb at = absurd cc
above low (wait ∷ waits) zero y climb at =
    let is : wait ≡ y = cc in subst (λ (w : Wait). low ≤ w.at) is climb.0
above low (wait ∷ waits) (suc j) y climb at =
    let first : low ≤ wait.at = climb.0 in
    let later : wait.at ≤ y.at = above wait.at waits j y climb.1 at in omega (arith, first, later)

climb_rises : (low : ℕ) (waits : List Wait) → Climb low waits → AreRising waits
climb_rises low [] climb i j x y few at there = absurd cc
climb_rises low (wait ∷ waits) climb zero zero x y few at there =
    let is : x ≡ y = cc in subst (λ (w : Wait). x.at ≤ w.at) is (omega arith)
climb_rises low (wait ∷ waits) climb zero (suc j) x y few at there =
    let is : wait ≡ x = cc in
    subst (λ (w : Wait). w.at ≤ y.at) is (above wait.at waits j y climb.1 there)
climb_rises low (wait ∷ waits) climb (suc i) zero x y few at there = absurd (omega (arith, few))
climb_rises low (wait ∷ waits) climb (suc i) (suc j) x y few at there =
    climb_rises wait.at waits climb.1 i j x y (omega (arith, few)) at there

-- the bits of a word show one number
climb_word : (vector at sure number value first many low : ℕ) (others : List Wait) → low ≤ at → Climb at others
    → Climb low (word_waits vector at sure number value first many ++ others)
climb_word vector at sure number value first zero low others less climb = climb_lower low at others less climb
climb_word vector at sure number value first (suc many) low others less climb =
    by_test (nat_lt (32 * number + first) vector) (climb_word vector at sure number value (first + 1) many)
  where
    by_test : (b : Bool) → ((low : ℕ) (others : List Wait) → low ≤ at → Climb at others
        → Climb low (word_waits vector at sure number value (first + 1) many ++ others))
        → Climb low (((if b then wait_of at sure (32 * number + first) (own_bit value first) ∷ [] else [])
        ++ word_waits vector at sure number value (first + 1) many) ++ others)
    by_test true behind = (less, behind at others (omega arith) climb)
    by_test false behind = behind low others less climb

module _ (on : StrNo) (vector : ℕ) where
  -- what is seen behind an item
  abbrev seen_with : List Shown → Shown → ℕ
  seen_with before item = also (seen_on on before) (shown_on on item)

  climb_more : (n low m : ℕ) → n ≡ max low m → low ≤ n
  climb_more n low m is = grind arith

  max_of : (low m : ℕ) → low ≤ m → max low m ≡ m
  max_of low m less = grind arith

  -- an item of this structure
  climb_here : (before : List Shown) (item : Shown) (others : List Wait) → (place_of item).0 == on.0 ≡ true
      → IsSeen before item → Climb (seen_with before item) others
      → Climb (seen_on on before) (item_waits vector (surest_on on before) item ++ others)
  climb_here before (Shown.Test place index bit at) others same seen climb =
      let is : place ≡ on = same_place place on same in
      let low : seen_on on before ≤ at = subst (λ (o : StrNo). seen_on o before ≤ at) is seen in
      let top : max (seen_on on before) at ≡ at = max_of (seen_on on before) at low in
      (low, subst (λ (n : ℕ). Climb n others) top (rw same at climb))
  climb_here before (Shown.Word place number value at) others same seen climb =
      let is : place ≡ on = same_place place on same in
      let low : seen_on on before ≤ at = subst (λ (o : StrNo). seen_on o before ≤ at) is seen in
      let top : max (seen_on on before) at ≡ at = max_of (seen_on on before) at low in
      climb_word vector at (surest_on on before) number value 0 32 (seen_on on before) others low
      (subst (λ (n : ℕ). Climb n others) top (rw same at climb))
  climb_here before (Shown.Call place number) others same seen climb =
      climb_lower (seen_on on before) (max (seen_on on before) number) others
      (climb_more (max (seen_on on before) number) (seen_on on before) number refl) (rw same at climb)
  climb_here before (Shown.BadIndex place index number len) others same seen climb = climb
  climb_here before (Shown.Posted place sure) others same seen climb =
      climb_lower (seen_on on before) (max (seen_on on before) sure) others
      (climb_more (max (seen_on on before) sure) (seen_on on before) sure refl) (rw same at climb)
  climb_here before (Shown.Took place sure) others same seen climb =
      climb_lower (seen_on on before) (max (seen_on on before) sure) others
      (climb_more (max (seen_on on before) sure) (seen_on on before) sure refl) (rw same at climb)

  also_more : (low : ℕ) (shows : Option ℕ) → low ≤ also low shows
  also_more low None = omega arith
  also_more low (Some m) = climb_more (max low m) low m refl

  climb_all : (before items : List Shown) → ((k : ℕ) (item : Shown) → slice_get items k ≡ Some item
      → IsSeen (before ++ take k items) item) → Climb (seen_on on before) (waits_of on vector before items)
  climb_all before [] seen = tt
  climb_all before (item ∷ items) seen = by_place ((place_of item).0 == on.0) refl (subst
      (λ (n : ℕ). Climb n (waits_of on vector (before ++ item ∷ []) items)) (push_max (shown_on on) before item)
      (climb_all (before ++ item ∷ []) items (λ k other at. subst (λ (b : List Shown). IsSeen b other)
      (sym (append_assoc before (item ∷ []) (take k items))) (seen (suc k) other at))))
    where
      first : IsSeen before item
      first = subst (λ (b : List Shown). IsSeen b item) (append-nil before) (seen 0 item refl)

      by_place : (b : Bool) → (place_of item).0 == on.0 ≡ b → Climb (seen_with before item)
          (waits_of on vector (before ++ item ∷ []) items) → Climb (seen_on on before) ((if b then
          item_waits vector (surest_on on before) item else []) ++ waits_of on vector (before ++ item ∷ []) items)
      by_place true same climb =
          climb_here before item (waits_of on vector (before ++ item ∷ []) items) same first climb
      by_place false other climb = climb_lower (seen_on on before) (seen_with before item)
          (waits_of on vector (before ++ item ∷ []) items) (also_more (seen_on on before) (shown_on on item)) climb

  pub waits_rise : (items : List Shown) → ((k : ℕ) (item : Shown)
      → slice_get items k ≡ Some item → IsSeen (take k items) item) → AreRising (waits_of on vector [] items)
  waits_rise items seen = climb_rises 0 (waits_of on vector [] items) (climb_all [] items seen)
