-- Which item a wait that isn't told is of, and what is known of the items before it.
use Rattle.std.proofs.Common.{◌≡◌, ℕ, zero, suc, ◌+◌, ◌<◌, ◌≤◌, ◌==◌, inl, inr, ◌⊎◌, Bool, true, false, if◌then◌else◌, List, [], ◌∷◌, ◌++◌, take, slice_get, Some, refl, sym, ap, subst, ◌∙◌, arith, append_assoc, append-nil}
use Rattle.caller_slots.specs.RunShown.CfTypes.declared.forms.StrForm.{StrForm}
use Rattle.caller_slots.specs.RunShown.CfTypes.declared.numbers.ConnId.{ConnId}
use Rattle.caller_slots.specs.RunShown.CfTypes.declared.numbers.StrNo.{StrNo}
use Rattle.caller_slots.specs.RunShown.PlexScript.declared.asks.AnyHistory.{AnyHistory}
use Rattle.caller_slots.specs.RunShown.PlexScript.declared.transcripts.Shown.{Shown}
use Rattle.caller_slots.specs.RunShown.PlexScript.Follows.{surest_on}
use Rattle.caller_slots.specs.RunShown.Headline.{place_of, TellsOf, TestsTell}
use Rattle.caller_slots.specs.RunShown.Kinds.{AnyTells}
use Rattle.caller_slots.proofs.Own.{same_place}
use Rattle.caller_items.specs.Orders.{IsSeen}
use Rattle.vector_waits.specs.declared.wait.Wait.{Wait}
use Rattle.caller_waits.specs.Tests.{item_waits, waits_at, waits_of, IsWithin, IsSmall, AllTell}
use Rattle.caller_waits.proofs.TestLaws.{item_tells, tells_waits}

-- ---- items before the first wrong one

get_taken : (xs : List Shown) (n k : ℕ) (x : Shown) → slice_get (take n xs) k ≡ Some x
    → (k < n) × (slice_get xs k ≡ Some x)
get_taken xs zero k x at = absurd (nowhere k at)
  where
    nowhere : (k : ℕ) → slice_get [] k ≡ Some x → ⊥
    nowhere k e = cc
get_taken [] (suc n) k x at = absurd cc
get_taken (y ∷ xs) (suc n) zero x at = (omega arith, at)
get_taken (y ∷ xs) (suc n) (suc k) x at =
    let rest = get_taken xs n k x at in let few : k < n = rest.0 in (omega (arith, few), rest.1)

take_taken : (xs : List Shown) (n k : ℕ) → k ≤ n → take k (take n xs) ≡ take k xs
take_taken xs n zero few = refl
take_taken xs zero (suc k) few = absurd (omega (arith, few))
take_taken [] (suc n) (suc k) few = refl
take_taken (x ∷ xs) (suc n) (suc k) few = ap (λ (l : List Shown). x ∷ l) (take_taken xs n k (omega (arith, few)))

-- the tests that an item shows tell what stood
pub record IsRight (forms : List StrForm) (histories : List AnyHistory) (conn : ConnId) (before : List Shown)
    (item : Shown) : Type 0 where
  pub small : IsSmall item
  pub seen : IsSeen before item
  pub within : (form : StrForm) → slice_get forms (place_of item).0 ≡ Some form → IsWithin form.vector item
  pub told : (form : StrForm) (entries : AnyHistory) → slice_get forms (place_of item).0 ≡ Some form
      → slice_get histories (place_of item).0 ≡ Some entries
      → AllTell form entries conn (item_waits form.vector (surest_on (place_of item) before) item)

pub right_tests : (forms : List StrForm) (histories : List AnyHistory) (conn : ConnId) (items : List Shown) (n : ℕ)
    → ((k : ℕ) (item : Shown) → k < n → slice_get items k ≡ Some item
    → IsRight forms histories conn (take k items) item) → TestsTell forms histories conn (take n items)
right_tests forms histories conn items n right k item form entries at known there =
    let both = get_taken items n k item at in
    let few : k < n = both.0 in
    let it = right k item few both.1 in
    subst (λ (b : List Shown). TellsOf form entries conn (place_of item) b item)
    (sym (take_taken items n k (omega (arith, few)))) (item_tells
    form entries conn (take k items) item it.small it.seen (it.within form known) (it.told form entries known there))

-- ---- the item of a wait

all_at : (form : StrForm) (entries : AnyHistory) (conn : ConnId) (waits : List Wait) → AllTell form entries conn waits
    → (i : ℕ) (wait : Wait) → slice_get waits i ≡ Some wait
    → AnyTells form entries wait.at wait.sure conn wait.index wait.bit
all_at form entries conn [] told i wait at = absurd cc
all_at form entries conn (first ∷ waits) told zero wait at =
    let is : first ≡ wait = cc in
    subst (λ (w : Wait). AnyTells form entries w.at w.sure conn w.index w.bit) is told.0
all_at form entries conn (first ∷ waits) told (suc i) wait at = all_at form entries conn waits told.1 i wait at

-- an item is wrong if one of its waits isn't told
pub wrong_wait : (form : StrForm) (entries : AnyHistory) (conn : ConnId) (before : List Shown) (item : Shown)
    → IsSmall item → (i : ℕ) (wait : Wait) → slice_get (item_waits form.vector (surest_on (place_of item) before)
    item) i ≡ Some wait → (AnyTells form entries wait.at wait.sure conn wait.index wait.bit → ⊥)
    → TellsOf form entries conn (place_of item) before item → ⊥
wrong_wait form entries conn before item small i wait at wrong tells =
    wrong (all_at form entries conn (item_waits form.vector (surest_on (place_of item) before) item)
    (tells_waits form entries conn before item small tells) i wait at)

get_split : (xs ys : List Wait) (i : ℕ) (z : Wait) → slice_get (xs ++ ys) i ≡ Some z
    → (slice_get xs i ≡ Some z) ⊎ ((j : ℕ) × (slice_get ys j ≡ Some z))
get_split [] ys i z at = inr (i, at)
get_split (x ∷ xs) ys zero z at = inl at
get_split (x ∷ xs) ys (suc i) z at = elim (get_split xs ys i z at) [
  | inl there ↦ inl there
  | inr later ↦ inr later
]

-- a wait of a structure's queue is one of an item
pub record IsOfItem (on : StrNo) (vector : ℕ) (before items : List Shown) (wait : Wait) : Type 0 where
  pub k : ℕ
  pub item : Shown
  pub there : slice_get items k ≡ Some item
  pub here : place_of item ≡ on
  pub place : ℕ
  pub among : slice_get (item_waits vector (surest_on on (before ++ take k items)) item) place ≡ Some wait

pub wait_item : (on : StrNo) (vector : ℕ) (before items : List Shown) (i : ℕ) (wait : Wait)
    → slice_get (waits_of on vector before items) i ≡ Some wait → IsOfItem on vector before items wait
wait_item on vector before [] i wait at = absurd (nowhere i at)
  where
    nowhere : (k : ℕ) → slice_get [] k ≡ Some wait → ⊥
    nowhere k e = cc
wait_item on vector before (first ∷ items) i wait at =
    let more : List Shown = before ++ first ∷ [] in
    elim (get_split (waits_at on vector before first) (waits_of on vector more items) i wait at) [
      | inl here ↦ by_place ((place_of first).0 == on.0) refl here
      | inr later ↦
          let rest = wait_item on vector more items later.0 wait later.1 in
          record {
            k = suc rest.k;
            item = rest.item;
            there = rest.there;
            here = rest.here;
            place = rest.place;
            among = subst (λ (b : List Shown). slice_get (item_waits vector (surest_on on b) rest.item)
                rest.place ≡ Some wait) (append_assoc before (first ∷ []) (take rest.k items)) rest.among;
          }
    ]
  where
    by_place : (b : Bool) → (place_of first).0 == on.0 ≡ b → slice_get (if b then item_waits
        vector (surest_on on before) first else []) i ≡ Some wait → IsOfItem on vector before (first ∷ items) wait
    by_place true same at' = record {
      k = 0;
      item = first;
      there = refl;
      here = same_place (place_of first) on same;
      place = i;
      among = subst (λ (b : List Shown). slice_get (item_waits vector (surest_on on b) first) i ≡ Some wait)
          (sym (append-nil before)) at';
    }
    by_place false other at' = absurd (nowhere i at')
      where
        nowhere : (k : ℕ) → slice_get [] k ≡ Some wait → ⊥
        nowhere k e = cc
