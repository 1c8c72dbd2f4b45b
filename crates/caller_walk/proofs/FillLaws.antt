-- How many items are what is due: so many slots are filled, and the next item doesn't fill the next slot.
use Rattle.std.proofs.Common.{◌≡◌, ℕ, zero, suc, ◌+◌, ◌<◌, ◌≤◌, ◌==◌, ◌&&◌, Bool, true, false, List, [], ◌∷◌, ◌++◌, length, fold, take, drop, get_or, Option, Some, None, slice_get, refl, sym, ap, subst, ◌∙◌, arith, cond}
use Rattle.std.proofs.lemmas.Bool.{and_parts, false≢true, eq-eqb}
use Rattle.std.proofs.lemmas.Bool.Decides.{nat_tests}
use Rattle.std.proofs.lemmas.List.{drop_more}
use Rattle.std.proofs.lemmas.Option.{slice_get_within, get_or_from_slice_get}
use Rattle.caller_slots.specs.RunShown.CfTypes.declared.numbers.StrNo.{StrNo}
use Rattle.caller_slots.specs.RunShown.PlexScript.declared.transcripts.Shown.{Shown}
use Rattle.caller_slots.specs.Asked.{IsAskedIn, AreAsked}
use Rattle.caller_slots.specs.Slots.{Slot, Calls, Tests, Words, Outside, Posts, Takes, FillsOne, Fills}
use Rattle.caller_walk.specs.Counts.{is_alike, is_due, is_there, count_one, count_slot, counted, due_at}
use Rattle.caller_walk.specs.declared.counts.Count.{Count}

-- ---- one item and one slot

self_eq : (n : ℕ) → n == n ≡ true
self_eq n = eq-eqb n n refl

self_same : (b : Bool) → is_alike b b ≡ true
self_same true = refl
self_same false = refl

both : {a b : Bool} → a ≡ true → b ≡ true → (a && b) ≡ true
both one other = rw (one, other) refl

pub fits_due : (slot : Slot) (item : Shown) → FillsOne slot item → is_due (due_at slot) item ≡ true
fits_due (Calls on asked call) item fits = rw fits.0 (both (self_eq on.0) (self_eq call.no))
fits_due (Tests on index) item (bit, (at, is)) = rw is (both (self_eq on.0) (self_eq index))
fits_due (Words on word) item (bits, (at, is)) = rw is (both (self_eq on.0) (self_eq word))
fits_due (Outside on index word len) item is =
    rw is (both (both (self_eq on.0) (self_eq index)) (both (self_same word) (self_eq len)))
fits_due (Posts on) item (sure, is) = rw is (self_eq on.0)
fits_due (Takes on) item (sure, is) = rw is (self_eq on.0)

same_place : (a b : StrNo) → a.0 == b.0 ≡ true → b ≡ a
same_place a b same =
    let number : b.0 ≡ a.0 = grind (arith, nat_tests) in ap (λ (n : ℕ). (let it : StrNo = record { 0 = n } in it)) number

same_number : (a b : ℕ) → a == b ≡ true → b ≡ a
same_number a b same = grind (arith, nat_tests)

same_bool : (a b : Bool) → is_alike a b ≡ true → b ≡ a
same_bool true true same = refl
same_bool false false same = refl
same_bool true false same = absurd cc
same_bool false true same = absurd cc

pub due_fits : (slot : Slot) (item : Shown) → IsAskedIn slot → is_due (due_at slot) item ≡ true → FillsOne slot item
due_fits (Calls on asked call) (Shown.Call place number) is due =
    let parts = and_parts (on.0 == place.0) (call.no == number) due in
    let here = same_place on place parts.0 in let same = same_number call.no number parts.1 in
    (rw (here, same) refl, is)
due_fits (Tests on index) (Shown.Test place at bit number) is due =
    let parts = and_parts (on.0 == place.0) (index == at) due in
    let here = same_place on place parts.0 in let same = same_number index at parts.1 in
    (bit, (number, rw (here, same) refl))
due_fits (Words on word) (Shown.Word place at bits number) is due =
    let parts = and_parts (on.0 == place.0) (word == at) due in
    let here = same_place on place parts.0 in let same = same_number word at parts.1 in
    (bits, (number, rw (here, same) refl))
due_fits (Outside on index word len) (Shown.BadIndex place at other many) is due =
    let parts = and_parts ((on.0 == place.0) && (index == at)) ((is_alike word other) && (len == many)) due in
    let first = and_parts (on.0 == place.0) (index == at) parts.0 in
    let second = and_parts (is_alike word other) (len == many) parts.1 in
    let here = same_place on place first.0 in let same = same_number index at first.1 in
    let kind = same_bool word other second.0 in let long = same_number len many second.1 in
    rw (here, same, kind, long) refl
due_fits (Posts on) (Shown.Posted place sure) is due = (sure, rw (same_place on place due) refl)
due_fits (Takes on) (Shown.Took place sure) is due = (sure, rw (same_place on place due) refl)
due_fits (Calls on asked call) _ is due = absurd cc
due_fits (Tests on index) _ is due = absurd cc
due_fits (Words on word) _ is due = absurd cc
due_fits (Outside on index word len) _ is due = absurd cc
due_fits (Posts on) _ is due = absurd cc
due_fits (Takes on) _ is due = absurd cc

-- ---- all of them

module _ (items : List Shown) where
  abbrev counting : ℕ → Count
  counting n = record { fitting = n; differs = false }

  abbrev differing : ℕ → Count
  differing n = record { fitting = n; differs = true }

  -- it stays so
  stays : (slots : List Slot) (n : ℕ) → counted items (differing n) slots ≡ differing n
  stays [] n = refl
  stays (slot ∷ slots) n = stays slots n

  -- so many slots are filled by the items from this one on, and then one isn't, or all are
  pub record Met (slots : List Slot) (n : ℕ) (count : Count) : Type 0 where
    pub far : ℕ
    pub is : count.fitting ≡ n + far
    pub most : far ≤ length slots
    pub within : n + far ≤ length items
    pub fills : Fills (take far slots) (take far (drop n items))
    pub all : count.differs ≡ false → far ≡ length slots
    pub short : count.differs ≡ true → far < length slots
    pub wrong : (slot : Slot) (item : Shown) → count.differs ≡ true → slice_get slots far ≡ Some slot
        → slice_get items (n + far) ≡ Some item → FillsOne slot item → ⊥

  met_none : (n : ℕ) → n ≤ length items → Met [] n (counting n)
  met_none n few = record {
    far = 0;
    is = omega arith;
    most = omega arith;
    within = omega (arith, few);
    fills = tt;
    all = λ _. refl;
    short = λ differs. absurd (false≢true differs);
    wrong = λ slot item differs at there fits. false≢true differs;
  }

  met_wrong : (slot : Slot) (slots : List Slot) (n : ℕ) → n ≤ length items
      → is_there (due_at slot) (slice_get items n) ≡ false → Met (slot ∷ slots) n (differing n)
  met_wrong slot slots n few other = record {
    far = 0;
    is = omega arith;
    most = omega arith;
    within = omega (arith, few);
    fills = tt;
    all = λ agrees. absurd (false≢true (sym agrees));
    short = λ _. omega arith;
    wrong = λ slot' item differs at there fits. (
        let same : slot ≡ slot' = cc in
        let place : n + 0 ≡ n = omega arith in
        let here : slice_get items n ≡ Some item = rw place at there in
        let due : is_due (due_at slot) item ≡ true =
        fits_due slot item (subst (λ (s : Slot). FillsOne s item) (sym same) fits) in
        let never : false ≡ true = sym other ∙ ap (is_there (due_at slot)) here ∙ due in false≢true never);
  }

  met_more : (slot : Slot) (slots : List Slot) (n : ℕ) (item : Shown) (count : Count) → IsAskedIn slot
      → slice_get items n ≡ Some item → is_due (due_at slot) item ≡ true → Met slots (n + 1) count
      → Met (slot ∷ slots) n count
  met_more slot slots n item count asked there due met =
      let within : n < length items = slice_get_within items n item there in
      let here : drop n items ≡ item ∷ drop (n + 1) items =
      drop_more items n item within
      ∙ ap (λ (i : Shown). i ∷ drop (n + 1) items) (get_or_from_slice_get items n item item there) in
      let place : n + suc met.far ≡ n + 1 + met.far = omega arith in
      record {
        far = suc met.far;
        is = met.is ∙ sym place;
        most = (let low : met.far ≤ length slots = met.most in omega (arith, low));
        within = (let low : n + 1 + met.far ≤ length items = met.within in omega (arith, low));
        fills = rw here (due_fits slot item asked due, met.fills);
        all = λ agrees. ap suc (met.all agrees);
        short = λ differs. (let low : met.far < length slots = met.short differs in omega (arith, low));
        wrong = λ slot' item' differs at there' fits. met.wrong slot' item' differs at
            (subst (λ (k : ℕ). slice_get items k ≡ Some item') place there') fits;
      }

  pub met : (slots : List Slot) (n : ℕ) → AreAsked slots → n ≤ length items
      → Met slots n (counted items (counting n) slots)
  met [] n asked few = met_none n few
  met (slot ∷ slots) n asked few =
      by_item (slice_get items n) refl (λ within. met slots (n + 1) asked.1 within)
    where
      next : Bool → Count
      next b = counted items (cond b (counting (n + 1)) (differing n)) slots

      by_test : (item : Shown) → slice_get items n ≡ Some item → (b : Bool) → is_due (due_at slot) item ≡ b
          → (n + 1 ≤ length items → Met slots (n + 1) (counted items (counting (n + 1)) slots))
          → Met (slot ∷ slots) n (next b)
      by_test item there true due rest =
          met_more slot slots n item (counted items (counting (n + 1)) slots) asked.0 there due
          (rest (let within = slice_get_within items n item there in omega (arith, within)))
      by_test item there false other rest = subst (Met (slot ∷ slots) n) (sym (stays slots n))
          (met_wrong slot slots n few (rw there other))

      by_item : (o : Option Shown) → slice_get items n ≡ o
          → (n + 1 ≤ length items → Met slots (n + 1) (counted items (counting (n + 1)) slots))
          → Met (slot ∷ slots) n (counted items (counting n) (slot ∷ slots))
      by_item None none rest = rw none (subst (Met (slot ∷ slots) n) (sym (stays slots n))
          (met_wrong slot slots n few (rw none refl)))
      by_item (Some item) there rest = rw there (by_test item there (is_due (due_at slot) item) refl rest)
