-- What the items of a caller show of a structure isn't past the end of its history.
use Rattle.std.proofs.Common.{◌≡◌, ℕ, zero, suc, ◌*◌, ◌<◌, ◌≤◌, ◌==◌, max, Bool, true, false, List, [], ◌∷◌, ◌++◌, length, map, filter, fold, take, Option, Some, None, slice_get, refl, sym, ap, subst, ◌∙◌, arith, cond}
use Rattle.std.specs.List.{filter_map}
use Rattle.std.proofs.lemmas.List.Elements.{filter_map-append}
use Rattle.std.proofs.lemmas.Bool.Decides.{nat_tests}
use Rattle.run_shown.specs.CfTypes.declared.forms.StrForm.{StrForm}
use Rattle.run_shown.specs.CfTypes.declared.numbers.ConnId.{ConnId}
use Rattle.run_shown.specs.CfTypes.declared.numbers.StrNo.{StrNo}
use Rattle.run_shown.specs.PlexScript.declared.asks.AnyHistory.{AnyHistory}
use Rattle.run_shown.specs.PlexScript.declared.transcripts.Shown.{Shown}
use Rattle.run_shown.specs.PlexScript.Heard.{AnyCall, own_calls, length_on}
use Rattle.run_shown.specs.PlexScript.Follows.{number_on, numbers_on, sure_on, surest_on}
use Rattle.run_shown.specs.Numbers.{seen_on, shown_on}
use Rattle.caller_slots.proofs.Own.{same_place}
use Rattle.caller_slots.proofs.Walks.{numbers_of}
use Rattle.caller_slots.proofs.Points.{AreUpTo, AreCallsUpTo}

-- ---- numbers

pub up_front : (high : ℕ) (xs ys : List ℕ) → AreUpTo high (xs ++ ys) → AreUpTo high xs
up_front high [] ys h = tt
up_front high (x ∷ xs) ys h = (h.0, up_front high xs ys h.1)

greatest_up : (high start : ℕ) (xs : List ℕ) → start ≤ high → AreUpTo high xs → fold max start xs ≤ high
greatest_up high start [] low h = low
greatest_up high start (x ∷ xs) low h = greatest_up high (max start x) xs (omega (arith, low, h.0)) h.1

pub own_up : (high : ℕ) (calls : List AnyCall) (conn : ConnId) → AreCallsUpTo high calls
    → AreUpTo high (numbers_of (own_calls calls conn))
own_up high [] conn h = tt
own_up high (call ∷ calls) conn h = by_caller (call.by.0 == conn.0) refl (own_up high calls conn h.1)
  where
    by_caller : (b : Bool) → call.by.0 == conn.0 ≡ b → AreUpTo high (numbers_of (own_calls calls conn))
        → AreUpTo high (numbers_of (own_calls (call ∷ calls) conn))
    by_caller true same rest = rw same (h.0, rest)
    by_caller false other rest = rw other rest

-- ---- items

-- what an item shows but for a call's number is within the history of its structure
abbrev pub IsWithin : List AnyHistory → Shown → Type 0
IsWithin histories (Shown.Call place number) = Unit {0}
IsWithin histories (Shown.Test place index bit at) = at ≤ length_on histories place
IsWithin histories (Shown.Word place word bits at) = at ≤ length_on histories place
IsWithin histories (Shown.BadIndex place index word len) = Unit {0}
IsWithin histories (Shown.Posted place sure) = sure ≤ length_on histories place
IsWithin histories (Shown.Took place sure) = sure ≤ length_on histories place

abbrev pub AreWithin : List AnyHistory → List Shown → Type 0
AreWithin histories [] = Unit {0}
AreWithin histories (item ∷ items) = IsWithin histories item × AreWithin histories items

pub within-append : (histories : List AnyHistory) (xs ys : List Shown) → AreWithin histories xs
    → AreWithin histories ys → AreWithin histories (xs ++ ys)
within-append histories [] ys h k = k
within-append histories (x ∷ xs) ys h k = (h.0, within-append histories xs ys h.1 k)

module _ (histories : List AnyHistory) (on : StrNo) where
  abbrev end : ℕ
  end = length_on histories on

  moved : (place : StrNo) (n : ℕ) → place.0 == on.0 ≡ true → n ≤ length_on histories place → n ≤ end
  moved place n same few = subst (λ (p : StrNo). n ≤ length_on histories p) (same_place place on same) few

  -- all numbers that items show
  abbrev pub AreShownUp : List Shown → Type 0
  AreShownUp items = AreUpTo end (filter_map (shown_on on) items) × AreUpTo end (filter_map (sure_on on) items)

  call_up : (place : StrNo) (number : ℕ) (items : List Shown) → (AreUpTo end (numbers_on on items) → AreShownUp items)
      → AreUpTo end (numbers_on on (Shown.Call place number ∷ items)) → AreShownUp (Shown.Call place number ∷ items)
  call_up place number items rest calls = by_place (place.0 == on.0) refl
    where
      by_place : (b : Bool) → place.0 == on.0 ≡ b → AreShownUp (Shown.Call place number ∷ items)
      by_place true same =
          let own : AreUpTo end (number ∷ numbers_on on items) = rw same at calls in
          let more = rest own.1 in rw same ((own.0, more.0), (own.0, more.1))
      by_place false other = rw other (rest (rw other at calls))

  test_up : (place : StrNo) (index : ℕ) (bit : Bool) (at : ℕ) (items : List Shown) → at ≤ length_on histories place
      → AreShownUp items → AreShownUp (Shown.Test place index bit at ∷ items)
  test_up place index bit at items few rest = by_place (place.0 == on.0) refl
    where
      by_place : (b : Bool) → place.0 == on.0 ≡ b → AreShownUp (Shown.Test place index bit at ∷ items)
      by_place true same = rw same ((moved place at same few, rest.0), rest.1)
      by_place false other = rw other rest

  word_up : (place : StrNo) (word bits at : ℕ) (items : List Shown) → at ≤ length_on histories place
      → AreShownUp items → AreShownUp (Shown.Word place word bits at ∷ items)
  word_up place word bits at items few rest = by_place (place.0 == on.0) refl
    where
      by_place : (b : Bool) → place.0 == on.0 ≡ b → AreShownUp (Shown.Word place word bits at ∷ items)
      by_place true same = rw same ((moved place at same few, rest.0), rest.1)
      by_place false other = rw other rest

  post_up : (place : StrNo) (sure : ℕ) (items : List Shown) → sure ≤ length_on histories place → AreShownUp items
      → AreShownUp (Shown.Posted place sure ∷ items)
  post_up place sure items few rest = by_place (place.0 == on.0) refl
    where
      by_place : (b : Bool) → place.0 == on.0 ≡ b → AreShownUp (Shown.Posted place sure ∷ items)
      by_place true same = rw same ((moved place sure same few, rest.0), (moved place sure same few, rest.1))
      by_place false other = rw other rest

  take_up : (place : StrNo) (sure : ℕ) (items : List Shown) → sure ≤ length_on histories place → AreShownUp items
      → AreShownUp (Shown.Took place sure ∷ items)
  take_up place sure items few rest = by_place (place.0 == on.0) refl
    where
      by_place : (b : Bool) → place.0 == on.0 ≡ b → AreShownUp (Shown.Took place sure ∷ items)
      by_place true same = rw same ((moved place sure same few, rest.0), (moved place sure same few, rest.1))
      by_place false other = rw other rest

  -- where those of calls are within
  pub shown_up : (items : List Shown) → AreWithin histories items → AreUpTo end (numbers_on on items)
      → AreShownUp items
  shown_up [] within calls = (tt, tt)
  shown_up (Shown.Call place number ∷ items) within calls =
      call_up place number items (λ own. shown_up items within.1 own) calls
  shown_up (Shown.Test place index bit at ∷ items) within calls =
      test_up place index bit at items within.0 (shown_up items within.1 calls)
  shown_up (Shown.Word place word bits at ∷ items) within calls =
      word_up place word bits at items within.0 (shown_up items within.1 calls)
  shown_up (Shown.BadIndex place index word len ∷ items) within calls = shown_up items within.1 calls
  shown_up (Shown.Posted place sure ∷ items) within calls =
      post_up place sure items within.0 (shown_up items within.1 calls)
  shown_up (Shown.Took place sure ∷ items) within calls =
      take_up place sure items within.0 (shown_up items within.1 calls)

  -- a front of items shows nothing past the end
  pub seen_up : (front back : List Shown) → AreWithin histories (front ++ back)
      → AreUpTo end (numbers_on on (front ++ back)) → (seen_on on front ≤ end) × (surest_on on front ≤ end)
  seen_up front back within calls =
      let all = shown_up (front ++ back) within calls in
      let split : (f : Shown → Option ℕ) → AreUpTo end (filter_map f (front ++ back)) → AreUpTo end (filter_map f front) =
      λ f h. up_front end (filter_map f front) (filter_map f back)
      (subst (AreUpTo end) (filter_map-append f front back) h) in (
        greatest_up end 0 (filter_map (shown_on on) front) (omega arith) (split (shown_on on) all.0),
        greatest_up end 0 (filter_map (sure_on on) front) (omega arith) (split (sure_on on) all.1),
      )
