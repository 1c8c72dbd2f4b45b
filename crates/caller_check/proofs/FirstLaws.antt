-- What is asked of the first item that isn't right.
use Rattle.std.proofs.Common.{◌≡◌, ℕ, zero, suc, ◌+◌, ◌*◌, ◌<◌, ◌≤◌, ◌==◌, ◌&&◌, not, min, inl, inr, Bool, true, false, if◌then◌else◌, List, [], ◌∷◌, ◌++◌, length, take, slice_get, Option, Some, None, refl, sym, ap, subst, ◌∙◌, arith}
use Rattle.std.specs.Prelude.{All}
use Rattle.std.proofs.lemmas.Bool.{cases_lt, cases_order, false≢true, and_parts}
use Rattle.std.proofs.lemmas.Bool.Decides.{nat_tests}
use Rattle.std.proofs.lemmas.List.{length-take}
use Rattle.std.proofs.lemmas.Option.{slice_get-get_or, slice_get_within, get_or_from_slice_get}
use Rattle.cf_lists.proofs.TableLaws.{get_within}
use Rattle.caller_slots.specs.RunShown.CfTypes.declared.forms.StrForm.{StrForm}
use Rattle.caller_slots.specs.RunShown.CfTypes.declared.numbers.ConnId.{ConnId}
use Rattle.caller_slots.specs.RunShown.CfTypes.declared.numbers.StrNo.{StrNo}
use Rattle.caller_slots.specs.RunShown.PlexScript.declared.asks.AnyHistory.{AnyHistory}
use Rattle.caller_slots.specs.RunShown.PlexScript.declared.scripts.Script.{Script}
use Rattle.caller_slots.specs.RunShown.PlexScript.declared.transcripts.Shown.{Shown}
use Rattle.caller_slots.specs.RunShown.PlexScript.Heard.{calls_on}
use Rattle.caller_slots.specs.RunShown.PlexScript.Follows.{IsNote}
use Rattle.caller_slots.specs.RunShown.Headline.{TellsOf, TestsTell, place_of}
use Rattle.caller_slots.specs.RunShown.Kinds.{IsAnyLegal, Rising}
use Rattle.caller_slots.specs.Works.{Work, works_of}
use Rattle.caller_slots.specs.Slots.{Slot, Calls, Tests, Words, Outside, Posts, Takes, FillsOne, Fills, AreNotes, places_of, slots_of}
use Rattle.caller_slots.proofs.Walks.{AreRight}
use Rattle.caller_slots.proofs.SlotLaws.{works_right}
use Rattle.caller_slots.proofs.GapLaws.{fills_each}
use Rattle.caller_slots.proofs.InSlots.{BeginsWithin, AreIn, AreAtStructures, whole_in}
use Rattle.caller_items.specs.Orders.{IsSeen, IsInOrder, AreInOrder}
use Rattle.caller_walk.specs.Running.{IsWhole, IsWalked}
use Rattle.caller_walk.specs.declared.counts.Count.{Count}
use Rattle.caller_walk.proofs.FillLaws.{Met, met}
use Rattle.caller_waits.proofs.TestLaws.{test_seen, word_seen}
use Rattle.check_model.specs.Judged.{IsGood, IsBadItem}
use Rattle.check_model.proofs.ItemLaws.{IsSound, bad_whole, good_whole, bad_at, bad_fit, bad_more, bad_end}
use Rattle.caller_check.specs.Untold.{IsFirstUntold, AreSeen}
use Rattle.caller_check.specs.First.{IsTrueHere, IsFirstWrong, least_bad}

-- ---- the front of a list

nowhere : {X : Type 0} (k : ℕ) (x : X) → slice_get [] k ≡ Some x → ⊥
nowhere k x e = cc

get_taken : (xs : List Shown) (n k : ℕ) (x : Shown) → slice_get (take n xs) k ≡ Some x
    → (k < n) × (slice_get xs k ≡ Some x)
get_taken xs zero k x at = absurd (nowhere k x at)
get_taken [] (suc n) k x at = absurd (nowhere k x at)
get_taken (y ∷ xs) (suc n) zero x at = (omega arith, at)
get_taken (y ∷ xs) (suc n) (suc k) x at =
    let rest = get_taken xs n k x at in let few : k < n = rest.0 in (omega (arith, few), rest.1)

take_get : {X : Type 0} (xs : List X) (n k : ℕ) (x : X) → k < n → slice_get xs k ≡ Some x
    → slice_get (take n xs) k ≡ Some x
take_get xs zero k x few at = absurd (omega (arith, few))
take_get [] (suc n) k x few at = absurd (nowhere k x at)
take_get (y ∷ xs) (suc n) zero x few at = at
take_get (y ∷ xs) (suc n) (suc k) x few at = take_get xs n k x (omega (arith, few)) at

take_taken : {X : Type 0} (xs : List X) (n k : ℕ) → k ≤ n → take k (take n xs) ≡ take k xs
take_taken xs n zero few = refl
take_taken xs zero (suc k) few = absurd (omega (arith, few))
take_taken [] (suc n) (suc k) few = refl
take_taken (x ∷ xs) (suc n) (suc k) few = ap (λ (l : _). x ∷ l) (take_taken xs n k (omega (arith, few)))

take_whole : {X : Type 0} (xs : List X) (n : ℕ) → n ≡ length xs → take n xs ≡ xs
take_whole [] n is = rw is refl
take_whole (x ∷ xs) zero is = absurd (cc)
take_whole (x ∷ xs) (suc n) is = ap (λ (l : _). x ∷ l) (take_whole xs n (let same : suc n ≡ suc (length xs) = is in cc))

fills_front : (slots : List Slot) (items : List Shown) (n : ℕ) → Fills slots items → Fills (take n slots) (take n items)
fills_front slots items zero fills = tt
fills_front [] [] (suc n) fills = tt
fills_front [] (item ∷ items) (suc n) fills = absurd fills
fills_front (slot ∷ slots) [] (suc n) fills = absurd fills
fills_front (slot ∷ slots) (item ∷ items) (suc n) fills = (fills.0, fills_front slots items n fills.1)

notes_front : (histories : List AnyHistory) (items : List Shown) (n k : ℕ) → k ≤ n → AreNotes histories (take n items)
    → AreNotes histories (take k items)
notes_front histories items n k few notes i item at =
    let here = get_taken items k i item at in
    let low : i < k = here.0 in
    let same : take i (take n items) ≡ take i (take k items) =
    take_taken items n i (omega (arith, low, few)) ∙ sym (take_taken items k i (omega (arith, low))) in
    subst (λ (b : List Shown). IsNote histories b item) same
    (notes i item (take_get items n i item (omega (arith, low, few)) here.1))

tests_front : (forms : List StrForm) (histories : List AnyHistory) (conn : ConnId) (items : List Shown) (n k : ℕ)
    → k ≤ n → TestsTell forms histories conn (take n items) → TestsTell forms histories conn (take k items)
tests_front forms histories conn items n k few tests i item form entries at known there =
    let here = get_taken items k i item at in
    let low : i < k = here.0 in
    let same : take i (take n items) ≡ take i (take k items) =
    take_taken items n i (omega (arith, low, few)) ∙ sym (take_taken items k i (omega (arith, low))) in
    subst (λ (b : List Shown). TellsOf form entries conn (place_of item) b item) same
    (tests i item form entries (take_get items n i item (omega (arith, low, few)) here.1) known there)

-- ---- items that are in order

pub one_order : (histories : List AnyHistory) (items : List Shown) (a b : ℕ) → AreInOrder histories items a
    → AreInOrder histories items b → a ≡ b
one_order histories items a b one other = elim (cases_order a b) [
  | inl same ↦ same
  | inr apart ↦ elim apart [
    | inl less ↦ absurd (longer a b one other less)
    | inr more ↦ absurd (longer b a other one more)
  ]
]
  where
    longer : (m n : ℕ) → AreInOrder histories items m → AreInOrder histories items n → m < n → ⊥
    longer m n short long less =
        let most : n ≤ length items = long.within in
        let it = get_within items m (omega (arith, less, most)) in
        short.next it.0 it.1 (long.each m it.0 less it.1)

pub order_seen : (histories : List AnyHistory) (items : List Shown) (many : ℕ) → AreInOrder histories items many
    → AreSeen (take many items)
order_seen histories items many order k item at =
    let here = get_taken items many k item at in
    let few : k < many = here.0 in
    let right = order.each k item few here.1 in
    subst (λ (b : List Shown). IsSeen b item) (sym (take_taken items many k (omega (arith, few)))) right.seen

pub known_front : (forms : List StrForm) (items : List Shown) (many : ℕ)
    → All (λ (item : Shown). (place_of item).0 < length forms) items
    → All (λ (item : Shown). (place_of item).0 < length forms) (take many items)
known_front forms items many known k d few =
    let at = get_taken items many k _ (slice_get-get_or (take many items) k d few) in
    let low = slice_get_within items k _ at.1 in
    subst (λ (i : Shown). (place_of i).0 < length forms) (get_or_from_slice_get items k _ d at.1) (known k d low)

-- what is in order and told, up to the first that isn't
pub first_wrong : (forms : List StrForm) (histories : List AnyHistory) (conn : ConnId) (items : List Shown)
    (ordered told : ℕ) → length histories ≡ length forms → All (λ (item : Shown). (place_of item).0 < length forms) items
    → AreInOrder histories items ordered → IsFirstUntold forms histories conn (take ordered items) told
    → IsFirstWrong forms histories conn items told
first_wrong forms histories conn items ordered told long known order first =
    let few : told ≤ length (take ordered items) = first.within in
    let most : ordered ≤ length items = order.within in
    let size : length (take ordered items) ≡ ordered = grind (arith, length-take) in
    let low : told ≤ ordered = omega (arith, few, size) in
    let front : take told (take ordered items) ≡ take told items = take_taken items ordered told low in
    record {
      within = omega (arith, low, most);
      notes = λ k item at. (
          let here = get_taken items told k item at in
          let less : k < told = here.0 in
          let right = order.each k item (omega (arith, less, low)) here.1 in
          subst (λ (b : List Shown). IsNote histories b item) (sym (take_taken items told k (omega (arith, less)))) right.note);
      tests = subst (TestsTell forms histories conn) front first.tests;
      wrong = λ item at ordered' true'. elim (cases_lt told ordered) [
        | inl less ↦
            let place = known told item (slice_get_within items told item at) in
            let few' : (place_of item).0 < length forms =
            subst (λ (i : Shown). (place_of i).0 < length forms) (get_or_from_slice_get items told item item at) place in
            let form = get_within forms (place_of item).0 few' in
            let entries = get_within histories (place_of item).0 (omega (arith, few', long)) in
            first.wrong item form.0 entries.0 (take_get items ordered told item less at) form.1 entries.1
            (subst (λ (b : List Shown). TellsOf form.0 entries.0 conn (place_of item) b item) (sym front)
            (true' form.0 entries.0 form.1 entries.1))
        | inr past ↦
            let is : told ≡ ordered = omega (arith, past, low) in
            order.next item (subst (λ (n : ℕ). slice_get items n ≡ Some item) is at)
            (subst (λ (n : ℕ). IsInOrder histories (take n items) item) is ordered')
      ];
    }

-- ---- a test that fills its slot, and tells what stood, isn't before what was seen

seen_of : (forms : List StrForm) (histories : List AnyHistory) (conn : ConnId) (before : List Shown) (slot : Slot)
    (item : Shown) → FillsOne slot item → BeginsWithin forms slot → (form : StrForm) (entries : AnyHistory)
    → slice_get forms (place_of item).0 ≡ Some form → TellsOf form entries conn (place_of item) before item
    → IsSeen before item
seen_of forms histories conn before slot (Shown.Call on number) fits begins form entries known tells = tt
seen_of forms histories conn before slot (Shown.BadIndex on index word len) fits begins form entries known tells = tt
seen_of forms histories conn before slot (Shown.Posted on sure) fits begins form entries known tells = tt
seen_of forms histories conn before slot (Shown.Took on sure) fits begins form entries known tells = tt
seen_of forms histories conn before slot (Shown.Test on index bit at) fits begins form entries known tells =
    test_seen form entries conn before on index at bit tells
seen_of forms histories conn before (Words place number) (Shown.Word on word bits at) (bits', (at', is))
    (form', known', begins) form entries known tells =
    let same : place ≡ on = cc in
    let same_word : number ≡ word = cc in
    let there : slice_get forms on.0 ≡ Some form' = subst (λ (p : StrNo). slice_get forms p.0 ≡ Some form') same known' in
    let is_form : form' ≡ form = (let both : Some form' ≡ Some form = sym there ∙ known in cc) in
    let few : 32 * word < form.vector =
    subst (λ (f : StrForm). 32 * word < f.vector) is_form (subst (λ (w : ℕ). 32 * w < form'.vector) same_word begins) in
    word_seen form entries conn before on word bits at few tells
seen_of forms histories conn before (Calls place asked call) (Shown.Word on word bits at) fits begins form entries known
    tells = absurd (let is = fits.0 in cc)
seen_of forms histories conn before (Tests place index) (Shown.Word on word bits at) (bit, (at', is)) begins form entries
    known tells = absurd cc
seen_of forms histories conn before (Outside place index b len) (Shown.Word on word bits at) fits begins form entries
    known tells = absurd cc
seen_of forms histories conn before (Posts place) (Shown.Word on word bits at) (sure, is) begins form entries known
    tells = absurd cc
seen_of forms histories conn before (Takes place) (Shown.Word on word bits at) (sure, is) begins form entries known
    tells = absurd cc

in_at : (forms : List StrForm) (many : ℕ) (slots : List Slot) (k : ℕ) (slot : Slot) → AreIn forms many slots
    → slice_get slots k ≡ Some slot → BeginsWithin forms slot
in_at forms many [] k slot all at = absurd (nowhere k slot at)
in_at forms many (first ∷ slots) zero slot all at =
    let is : first ≡ slot = cc in subst (BeginsWithin forms) is all.1
in_at forms many (first ∷ slots) (suc k) slot all at = in_at forms many slots k slot all.2 at

take_front : (xs more : List Shown) (k : ℕ) → k < length xs → take k (take (k + 1) xs ++ more) ≡ take k xs
take_front [] more k within = absurd (omega (arith, within))
take_front (x ∷ xs) more zero within = refl
take_front (x ∷ xs) more (suc k) within =
    let is : suc k + 1 ≡ suc (k + 1) = omega arith in
    rw is (ap (λ (l : List Shown). x ∷ l) (take_front xs more k (omega (arith, within))))

get_front : (xs ys : List Shown) (i : ℕ) (x : Shown) → slice_get xs i ≡ Some x → slice_get (xs ++ ys) i ≡ Some x
get_front [] ys i x e = absurd (nowhere i x e)
get_front (y ∷ xs) ys zero x e = e
get_front (y ∷ xs) ys (suc i) x e = get_front xs ys i x e

-- ---- tests

min_left : (a b : ℕ) → a ≤ b → min a b ≡ a
min_left a b few = grind arith

min_right : (a b : ℕ) → b ≤ a → min a b ≡ b
min_right a b few = grind arith

same_true : (a b : ℕ) → a ≡ b → a == b ≡ true
same_true a b is = grind (arith, nat_tests)

true_same : (a b : ℕ) → a == b ≡ true → a ≡ b
true_same a b is = grind (arith, nat_tests)

both_true : (b : Bool) → b ≡ true → (b && not false) ≡ true
both_true b is = rw is refl

not_true : (b : Bool) → not b ≡ true → b ≡ false
not_true true is = absurd (false≢true is)
not_true false is = refl

some_of : (m item : ℕ) (b : Bool) → (if b then None else Some (m + 1)) ≡ Some item → (b ≡ false) × (item ≡ m + 1)
some_of m item true is = absurd cc
some_of m item false is = (refl, (let same : m + 1 ≡ item = cc in sym same))

none_of : (m : ℕ) (b : Bool) → (if b then None else Some (m + 1)) ≡ None → b ≡ true
none_of m true is = refl
none_of m false is = absurd cc

-- ---- the whole

module _ (script : Script) (histories : List AnyHistory) (conn : ConnId)
    (long : length histories ≡ length script.structures)
    (known : All (λ line. line.on.0 < length script.structures) script.lines)
    (legal : (x : ℕ) (form : StrForm) (entries : AnyHistory) → slice_get script.structures x ≡ Some form
    → slice_get histories x ≡ Some entries → IsAnyLegal form entries)
    (rise : (on : StrNo) → Rising 0 (calls_on histories on)) (items : List Shown)
    (placed : All (λ (item : Shown). (place_of item).0 < length script.structures) items) where
  abbrev slots : List Slot
  slots = (slots_of script histories conn).slots

  abbrev Sound : Type 0
  Sound = IsSound script histories conn long known rise legal

  abbrev Bad : ℕ → Type 0
  Bad item = IsBadItem script histories conn items item

  at_structures : (works : List Work) → AreRight script.structures histories conn (length script.structures) rise works
      → AreAtStructures script.structures (length script.structures) works
  at_structures [] right = tt
  at_structures (work ∷ works) right = (right.0.1, at_structures works right.1)

  slots_in : AreIn script.structures (length script.structures) slots
  slots_in = whole_in script.structures (length script.structures) (works_of script conn) (places_of histories conn)
      (at_structures (works_of script conn) (works_right script histories conn long known rise))

  -- no call makes what the lines ask
  pub unsound_bad : IsWalked script histories conn items None → Bad 1
  unsound_bad broken =
      bad_whole script histories conn long known rise legal items (λ sound. broken sound.ends sound.used sound.asked)

  module _ (count : Count) (right : ℕ) (whole : IsWhole script histories conn items count)
      (wrong : IsFirstWrong script.structures histories conn items right) where
    sound : Sound
    sound = record { ends = whole.ends; used = whole.used; asked = whole.asked }

    found : Met items slots 0 count
    found = subst (Met items slots 0) (sym whole.counts) (met items slots 0 whole.asked (omega arith))

    abbrev far : ℕ
    far = found.far

    far_is : count.fitting ≡ far
    far_is = (let is : count.fitting ≡ 0 + far = found.is in omega (arith, is))

    far_within : far ≤ length items
    far_within = (let low : 0 + far ≤ length items = found.within in omega (arith, low))

    -- so many items are due, and all are right
    module _ (few : far ≤ right) where
      notes : AreNotes histories (take far items)
      notes = notes_front histories items right far few wrong.notes

      tests : TestsTell script.structures histories conn (take far items)
      tests = tests_front script.structures histories conn items right far few wrong.tests

      differs_bad : count.differs ≡ true → Bad (far + 1)
      differs_bad differs = elim (cases_lt far (length items)) [
        | inl less ↦
            let item = get_within items far less in
            let slot = get_within slots far (found.short differs) in
            let place : 0 + far ≡ far = omega arith in
            bad_fit script histories conn long known rise legal items far sound far_within found.fills notes tests item.0
            item.1 less slot.0 slot.1 (found.wrong slot.0 item.0 differs slot.1
            (subst (λ (n : ℕ). slice_get items n ≡ Some item.0) (sym place) item.1))
        | inr past ↦ bad_end script histories conn long known rise legal items far sound far_within found.fills notes tests
            (omega (arith, past, far_within)) (found.short differs)
      ]

      more_bad : count.differs ≡ false → far < length items → Bad (far + 1)
      more_bad agrees less =
          let item = get_within items far less in
          let all : far ≡ length slots = found.all agrees in
          bad_more script histories conn long known rise legal items far sound far_within found.fills notes tests item.0
          item.1 less (omega (arith, all))

      all_good : count.differs ≡ false → far ≡ length items → IsGood script histories conn items
      all_good agrees is =
          let all : far ≡ length slots = found.all agrees in
          let fills : Fills slots items = subst (λ (s : List Slot). Fills s items) (take_whole slots far all)
          (subst (λ (l : List Shown). Fills (take far slots) l) (take_whole items far is) found.fills) in
          let notes' : AreNotes histories items = subst (AreNotes histories) (take_whole items far is) notes in
          let tests' : TestsTell script.structures histories conn items =
          subst (TestsTell script.structures histories conn) (take_whole items far is) tests in
          good_whole script histories conn long known rise legal items sound fills notes' tests'

    -- one that is due isn't right
    wrong_bad : right < far → Bad (right + 1)
    wrong_bad less =
        let within : right < length items = omega (arith, less, far_within) in
        let most : far ≤ length slots = found.most in
        let item = get_within items right within in
        let slot = get_within slots right (omega (arith, less, most)) in
        let fills : Fills (take far slots) (take far items) = found.fills in
        let fits : FillsOne slot.0 item.0 = fills_each (take far slots) (take far items) fills right slot.0 item.0
        (take_get slots far right slot.0 less slot.1) (take_get items far right item.0 less item.1) in
        let begins : BeginsWithin script.structures slot.0 =
        in_at script.structures (length script.structures) slots right slot.0 slots_in slot.1 in
        let front : Fills (take right slots) (take right items) =
        subst (λ (s : List Slot). Fills s (take right items)) (take_taken slots far right (omega (arith, less)))
        (subst (λ (l : List Shown). Fills (take right (take far slots)) l)
        (take_taken items far right (omega (arith, less))) (fills_front (take far slots) (take far items) right fills)) in
        bad_at script histories conn long known rise legal items right sound (omega (arith, within)) front wrong.notes
        wrong.tests (λ more within' good. never more item.0 item.1 slot.0 fits begins within good)
        (λ is. absurd (omega (arith, is, within)))
      where
        never : (more : List Shown) (item : Shown) → slice_get items right ≡ Some item → (slot : Slot)
            → FillsOne slot item → BeginsWithin script.structures slot → right < length items
            → IsGood script histories conn (take (right + 1) items ++ more) → ⊥
        never more item at slot fits begins within good =
            let longer : List Shown = take (right + 1) items ++ more in
            let front : take right longer ≡ take right items = take_front items more right within in
            let in_good : slice_get longer right ≡ Some item =
            get_front (take (right + 1) items) more right item (take_get items (right + 1) right item (omega arith) at) in
            let note : IsNote histories (take right items) item =
            subst (λ (b : List Shown). IsNote histories b item) front (good.0.agrees.notes right item in_good) in
            let true' : IsTrueHere script.structures histories conn (take right items) item =
            λ form entries known' there. subst (λ (b : List Shown). TellsOf form entries conn (place_of item) b item) front
            (good.1 right item form entries in_good known' there) in
            let few : (place_of item).0 < length script.structures =
            subst (λ (i : Shown). (place_of i).0 < length script.structures)
            (get_or_from_slice_get items right item item at) (placed right item within) in
            let form = get_within script.structures (place_of item).0 few in
            let entries = get_within histories (place_of item).0 (omega (arith, few, long)) in
            let seen : IsSeen (take right items) item =
            seen_of script.structures histories conn (take right items) slot item fits begins form.0 entries.0 form.1
            (true' form.0 entries.0 form.1 entries.1) in
            wrong.wrong item at (record { note = note; seen = seen }) true'

    -- ---- what is answered

    abbrev answer : ℕ → Bool → Option ℕ
    answer m differs = if (m == length items) && not differs then None else Some (m + 1)

    answer_is : (m : ℕ) (o : Option ℕ) → min count.fitting right ≡ m → least_bad count right (length items) ≡ o
        → answer m count.differs ≡ o
    answer_is m o same is = sym (ap (λ (n : ℕ). answer n count.differs) same) ∙ is

    least_right : right < far → min count.fitting right ≡ right
    least_right less = min_right count.fitting right (omega (arith, less, far_is))

    least_far : far ≤ right → min count.fitting right ≡ far
    least_far few = min_left count.fitting right (omega (arith, few, far_is)) ∙ far_is

    pub some_bad : (item : ℕ) → least_bad count right (length items) ≡ Some item → Bad item
    some_bad item is = elim (cases_lt right far) [
      | inl less ↦
          let it = some_of right item ((right == length items) && not count.differs)
          (answer_is right (Some item) (least_right less) is) in
          subst Bad (sym it.1) (wrong_bad less)
      | inr few ↦
          let it = some_of far item ((far == length items) && not count.differs)
          (answer_is far (Some item) (least_far few) is) in
          subst Bad (sym it.1) (by_differs few count.differs refl it.0)
    ]
      where
        by_differs : far ≤ right → (d : Bool) → count.differs ≡ d → ((far == length items) && not d) ≡ false
            → Bad (far + 1)
        by_differs few true differs other = differs_bad few differs
        by_differs few false agrees other = elim (cases_lt far (length items)) [
          | inl less ↦ more_bad few agrees less
          | inr past ↦ absurd (false≢true (sym other
              ∙ both_true (far == length items) (same_true far (length items) (omega (arith, past, far_within)))))
        ]

    pub none_bad : least_bad count right (length items) ≡ None → IsGood script histories conn items
    none_bad is = elim (cases_lt right far) [
      | inl less ↦
          let it = none_of right ((right == length items) && not count.differs)
          (answer_is right None (least_right less) is) in
          let parts = and_parts (right == length items) (not count.differs) it in
          let all : right ≡ length items = true_same right (length items) parts.0 in
          absurd (omega (arith, less, all, far_within))
      | inr few ↦
          let it = none_of far ((far == length items) && not count.differs) (answer_is far None (least_far few) is) in
          let parts = and_parts (far == length items) (not count.differs) it in
          all_good few (not_true count.differs parts.1) (true_same far (length items) parts.0)
    ]
