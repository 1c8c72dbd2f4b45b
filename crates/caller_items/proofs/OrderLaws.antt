-- A table of what was seen, one item after another.
use Rattle.std.proofs.Common.{◌≡◌, ℕ, zero, suc, ◌+◌, ◌<◌, ◌≤◌, ◌==◌, ◌&&◌, max, Bool, true, false, List, [], ◌∷◌, ◌++◌, length, fold, take, get_or, set, slice_get, replicate, Option, Some, None, inl, inr, ◌⊎◌, ◌≢◌, refl, sym, ap, subst, ◌∙◌, arith, cond}
use Rattle.std.specs.Prelude.{nat_le, All}
use Rattle.std.specs.List.{filter_map}
use Rattle.std.proofs.lemmas.Bool.{and_parts, false≢true, cases_lt}
use Rattle.std.proofs.lemmas.Bool.Decides.{nat_tests}
use Rattle.std.proofs.lemmas.List.{length-set, length-replicate, get_or-replicate, get_or-set_same, get_or-set_other, get_or_default, take_more}
use Rattle.std.proofs.lemmas.List.Elements.{filter_map-append}
use Rattle.std.proofs.lemmas.List.Sums.{fold-append}
use Rattle.std.proofs.lemmas.Option.{slice_get-get_or, slice_get_within}
use Rattle.caller_slots.specs.RunShown.CfTypes.declared.numbers.StrNo.{StrNo}
use Rattle.caller_slots.specs.RunShown.PlexScript.declared.asks.AnyHistory.{AnyHistory}
use Rattle.caller_slots.specs.RunShown.PlexScript.declared.transcripts.Shown.{Shown}
use Rattle.caller_slots.specs.RunShown.PlexScript.Follows.{IsNote, surest_on, sure_on}
use Rattle.caller_slots.specs.RunShown.PlexScript.Heard.{any_length, length_on}
use Rattle.caller_slots.specs.RunShown.Headline.{place_of}
use Rattle.caller_slots.specs.RunShown.Numbers.{seen_on, shown_on}
use Rattle.caller_slots.proofs.Own.{same_place}
use Rattle.caller_items.specs.Orders.{IsSeen, IsInOrder, AreInOrder, no_numbers, seen_at, is_in_order, seen_after, Tells}
use Rattle.caller_items.specs.declared.orders.Seen.{Seen}

-- ---- one item more

-- the greatest number, behind one more
abbrev pub also : ℕ → Option ℕ → ℕ
also so_far None = so_far
also so_far (Some n) = max so_far n

pub push_max : (f : Shown → Option ℕ) (before : List Shown) (item : Shown)
    → fold max 0 (filter_map f (before ++ item ∷ [])) ≡ also (fold max 0 (filter_map f before)) (f item)
push_max f before item = ap (fold max 0) (filter_map-append f before (item ∷ []))
    ∙ fold-append max 0 (filter_map f before) (filter_map f (item ∷ [])) ∙ by_shown (f item) refl
  where
    by_shown : (o : Option ℕ) → f item ≡ o → fold max (fold max 0 (filter_map f before)) (filter_map f (item ∷ []))
        ≡ also (fold max 0 (filter_map f before)) o
    by_shown None is = rw is refl
    by_shown (Some n) is = rw is refl

module _ (on : StrNo) where
  -- an item of another structure shows nothing of this one
  shown_other : (item : Shown) → (place_of item).0 == on.0 ≡ false → shown_on on item ≡ None
  shown_other (Shown.Call place number) other = rw other refl
  shown_other (Shown.Test place index bit at) other = rw other refl
  shown_other (Shown.Word place word bits at) other = rw other refl
  shown_other (Shown.BadIndex place index word len) other = refl
  shown_other (Shown.Posted place sure) other = rw other refl
  shown_other (Shown.Took place sure) other = rw other refl

  sure_other : (item : Shown) → (place_of item).0 == on.0 ≡ false → sure_on on item ≡ None
  sure_other (Shown.Call place number) other = rw other refl
  sure_other (Shown.Test place index bit at) other = refl
  sure_other (Shown.Word place word bits at) other = refl
  sure_other (Shown.BadIndex place index word len) other = refl
  sure_other (Shown.Posted place sure) other = rw other refl
  sure_other (Shown.Took place sure) other = rw other refl

  seen_same : (before : Seen) (item : Shown) → (place_of item).0 == on.0 ≡ true
      → (seen_after before item).seen ≡ also before.seen (shown_on on item)
  seen_same before (Shown.Call place number) same = rw same refl
  seen_same before (Shown.Test place index bit at) same = rw same refl
  seen_same before (Shown.Word place word bits at) same = rw same refl
  seen_same before (Shown.BadIndex place index word len) same = refl
  seen_same before (Shown.Posted place sure) same = rw same refl
  seen_same before (Shown.Took place sure) same = rw same refl

  sure_same : (before : Seen) (item : Shown) → (place_of item).0 == on.0 ≡ true
      → (seen_after before item).sure ≡ also before.sure (sure_on on item)
  sure_same before (Shown.Call place number) same = rw same refl
  sure_same before (Shown.Test place index bit at) same = refl
  sure_same before (Shown.Word place word bits at) same = refl
  sure_same before (Shown.BadIndex place index word len) same = refl
  sure_same before (Shown.Posted place sure) same = rw same refl
  sure_same before (Shown.Took place sure) same = rw same refl

-- ---- the table

module _ (table : List Seen) (before : List Shown) (item : Shown) (tells : Tells table before)
    (within : (place_of item).0 < length table) where
  abbrev here : StrNo
  here = place_of item

  abbrev next : List Seen
  next = set table here.0 (seen_after (seen_at table here) item)

  entry_is : (on : StrNo) → on.0 < length table → (b : Bool) → here.0 == on.0 ≡ b → ((seen_at next on).seen ≡ seen_on
      on (before ++ item ∷ [])) × ((seen_at next on).sure ≡ surest_on on (before ++ item ∷ []))
  entry_is on few true same =
      let is : here ≡ on = same_place here on same in
      let at : seen_at next here ≡ seen_after (seen_at table here) item =
      get_or-set_same table here.0 (seen_after (seen_at table here) item) no_numbers within in
      let at_on : seen_at next on ≡ seen_after (seen_at table on) item =
      subst (λ (o : StrNo). seen_at next o ≡ seen_after (seen_at table o) item) is at in (
        ap (λ (s : Seen). s.seen) at_on ∙ seen_same on (seen_at table on) item same
            ∙ ap (λ (n : ℕ). also n (shown_on on item)) (tells.seen on few) ∙ sym (push_max (shown_on on) before item),
        ap (λ (s : Seen). s.sure) at_on ∙ sure_same on (seen_at table on) item same
            ∙ ap (λ (n : ℕ). also n (sure_on on item)) (tells.sure on few) ∙ sym (push_max (sure_on on) before item),
      )
  entry_is on few false apart =
      let other : on.0 ≢ here.0 = (λ is. absurd (by_number is)) in
      let at : seen_at next on ≡ seen_at table on =
      get_or-set_other table here.0 on.0 (seen_after (seen_at table here) item) no_numbers other in (
        ap (λ (s : Seen). s.seen) at ∙ tells.seen on few ∙ ap (also (seen_on on before))
            (sym (shown_other on item apart)) ∙ sym (push_max (shown_on on) before item),
        ap (λ (s : Seen). s.sure) at ∙ tells.sure on few ∙ ap (also (surest_on on before))
            (sym (sure_other on item apart)) ∙ sym (push_max (sure_on on) before item),
      )
    where
      by_number : on.0 ≡ here.0 → ⊥
      by_number is = grind (arith, nat_tests)

  pub tells_more : Tells next (before ++ item ∷ [])
  tells_more =
      let size = length-set table here.0 (seen_after (seen_at table here) item) in
      record {
        seen = λ on few. (let both = entry_is on (omega (arith, few, size)) (here.0 == on.0) refl in both.0);
        sure = λ on few. (let both = entry_is on (omega (arith, few, size)) (here.0 == on.0) refl in both.1);
      }

-- ---- whether an item is in order

le_of : (a b : ℕ) → nat_le a b ≡ true → a ≤ b
le_of a b is = grind (arith, nat_tests)

of_le : (a b : ℕ) → a ≤ b → nat_le a b ≡ true
of_le a b is = grind (arith, nat_tests)

module _ (histories : List AnyHistory) (before : List Shown) (table : List Seen) (tells : Tells table before) where
  abbrev at : Shown → Seen
  at item = seen_at table (place_of item)

  pub order_holds : (item : Shown) → (place_of item).0 < length table
      → is_in_order (length_on histories (place_of item)) (at item) item ≡ true → IsInOrder histories before item
  order_holds (Shown.Call on number) few is = record { note = tt; seen = tt }
  order_holds (Shown.BadIndex on index word len) few is = record { note = tt; seen = tt }
  order_holds (Shown.Test on index bit number) few is = record {
    note = tt;
    seen = subst (λ (n : ℕ). n ≤ number) (tells.seen on few) (le_of (seen_at table on).seen number is);
  }
  order_holds (Shown.Word on word bits number) few is = record {
    note = tt;
    seen = subst (λ (n : ℕ). n ≤ number) (tells.seen on few) (le_of (seen_at table on).seen number is);
  }
  order_holds (Shown.Posted on sure) few is =
      let parts = and_parts (nat_le (seen_at table on).sure sure) (nat_le sure (length_on histories on)) is in
      record {
        note = (
          subst (λ (n : ℕ). n ≤ sure) (tells.sure on few) (le_of (seen_at table on).sure sure parts.0),
          le_of sure (length_on histories on) parts.1,
        );
        seen = tt;
      }
  order_holds (Shown.Took on sure) few is =
      let parts = and_parts (nat_le (seen_at table on).sure sure) (nat_le sure (length_on histories on)) is in
      record {
        note = (
          subst (λ (n : ℕ). n ≤ sure) (tells.sure on few) (le_of (seen_at table on).sure sure parts.0),
          le_of sure (length_on histories on) parts.1,
        );
        seen = tt;
      }

  both : {a b : Bool} → a ≡ true → b ≡ true → (a && b) ≡ true
  both one other = rw (one, other) refl

  holds_order : (item : Shown) → (place_of item).0 < length table → IsInOrder histories before item
      → is_in_order (length_on histories (place_of item)) (at item) item ≡ true
  holds_order (Shown.Call on number) few is = refl
  holds_order (Shown.BadIndex on index word len) few is = refl
  holds_order (Shown.Test on index bit number) few is =
      of_le (seen_at table on).seen number (subst (λ (n : ℕ). n ≤ number) (sym (tells.seen on few)) is.seen)
  holds_order (Shown.Word on word bits number) few is =
      of_le (seen_at table on).seen number (subst (λ (n : ℕ). n ≤ number) (sym (tells.seen on few)) is.seen)
  holds_order (Shown.Posted on sure) few is = both (of_le (seen_at table on).sure sure (subst
      (λ (n : ℕ). n ≤ sure) (sym (tells.sure on few)) is.note.0)) (of_le sure (length_on histories on) is.note.1)
  holds_order (Shown.Took on sure) few is = both (of_le (seen_at table on).sure sure (subst
      (λ (n : ℕ). n ≤ sure) (sym (tells.sure on few)) is.note.0)) (of_le sure (length_on histories on) is.note.1)

  pub order_fails : (item : Shown) → (place_of item).0 < length table
      → is_in_order (length_on histories (place_of item)) (at item) item ≡ false → IsInOrder histories before item → ⊥
  order_fails item few is order = false≢true (sym is ∙ holds_order item few order)

-- ---- all items

-- the first ones, so many, are in order, and the table tells what they show
pub record AreSoFar (histories : List AnyHistory) (items : List Shown) (table : List Seen) (many : ℕ) : Type 0 where
  pub size : length table ≡ length histories
  pub tells : Tells table (take many items)
  pub each : (k : ℕ) (item : Shown) → k < many → slice_get items k ≡ Some item
      → IsInOrder histories (take k items) item

nothing : (n x : ℕ) → x < length (replicate n no_numbers) → get_or (replicate n no_numbers) x no_numbers ≡ no_numbers
nothing n x few =
    get_or-replicate n x no_numbers no_numbers (let size = length-replicate n no_numbers in omega (arith, few, size))

pub starts : (histories : List AnyHistory) (items : List Shown)
    → AreSoFar histories items (replicate (length histories) no_numbers) 0
starts histories items = record {
  size = length-replicate (length histories) no_numbers;
  tells = record {
    seen = λ on few. ap (λ (s : Seen). s.seen) (nothing (length histories) on.0 few);
    sure = λ on few. ap (λ (s : Seen). s.sure) (nothing (length histories) on.0 few);
  };
  each = λ k item few at. absurd (omega (arith, few));
}

module _ (histories : List AnyHistory) (items : List Shown) (table : List Seen) (many : ℕ)
    (so_far : AreSoFar histories items table many) (item d : Shown) (within : many < length items)
    (value : item ≡ get_or items many d) (few : (place_of item).0 < length histories) (entries : AnyHistory)
    (there : slice_get histories (place_of item).0 ≡ Some entries) where
  item_at : slice_get items many ≡ Some item
  item_at = slice_get-get_or items many d within ∙ ap (λ (i : Shown). Some i) (sym value)

  in_table : (place_of item).0 < length table
  in_table = (let size : length table ≡ length histories = so_far.size in omega (arith, size, few))

  length_is : length_on histories (place_of item) ≡ any_length entries
  length_is = rw there refl

  longer : take (many + 1) items ≡ take many items ++ item ∷ []
  longer = take_more items many d within ∙ ap (λ (i : Shown). take many items ++ i ∷ []) (sym value)

  order_is : (b : Bool) → is_in_order (any_length entries) (seen_at table (place_of item)) item ≡ b
      → is_in_order (length_on histories (place_of item)) (seen_at table (place_of item)) item ≡ b
  order_is b is = ap (λ (n : ℕ). is_in_order n (seen_at table (place_of item)) item) length_is ∙ is

  pub one_more : is_in_order (any_length entries) (seen_at table (place_of item)) item ≡ true → AreSoFar
      histories items (set table (place_of item).0 (seen_after (seen_at table (place_of item)) item)) (many + 1)
  one_more is = record {
    size = length-set table (place_of item).0 (seen_after (seen_at table (place_of item)) item) ∙ so_far.size;
    tells = subst (Tells (set table (place_of item).0 (seen_after (seen_at table (place_of item)) item))) (sym longer)
        (tells_more table (take many items) item so_far.tells in_table);
    each = λ k other low at. by_place k other low at (cases_lt k many);
  }
    where
      by_place : (k : ℕ) (other : Shown) → k < many + 1 → slice_get items k ≡ Some other → (k < many) ⊎ (many ≤ k)
          → IsInOrder histories (take k items) other
      by_place k other low at (inl less) = so_far.each k other less at
      by_place k other low at (inr same) =
          let last : k ≡ many = omega (arith, same, low) in
          let here : slice_get items many ≡ Some other = subst (λ (n : ℕ). slice_get items n ≡ Some other) last at in
          let its : item ≡ other = (let both : Some item ≡ Some other = sym item_at ∙ here in cc) in
          subst (λ (n : ℕ). IsInOrder histories (take n items) other) (sym last)
          (subst (IsInOrder histories (take many items)) its
          (order_holds histories (take many items) table so_far.tells item in_table (order_is true is)))

  pub stops : is_in_order (any_length entries) (seen_at table (place_of item)) item ≡ false
      → AreInOrder histories items many
  stops is = record {
    within = omega (arith, within);
    each = so_far.each;
    next = λ other at order. (
        let its : item ≡ other = (let both : Some item ≡ Some other = sym item_at ∙ at in cc) in
        order_fails histories (take many items) table so_far.tells item in_table (order_is false is)
        (subst (IsInOrder histories (take many items)) (sym its) order));
  }

pub ends : (histories : List AnyHistory) (items : List Shown) (table : List Seen)
    → AreSoFar histories items table (length items) → AreInOrder histories items (length items)
ends histories items table so_far = record {
  within = omega arith;
  each = so_far.each;
  next = λ item at order. (let low : length items < length items = slice_get_within items (length items) item at in
      omega (arith, low));
}

-- the same, as a loop over the places of items has it
module _ (histories : List AnyHistory) (items : List Shown) (table : List Seen) (many : ℕ)
    (so_far : AreSoFar histories items table many) (d : Shown) (within : many < length items)
    (known : All (λ (item : Shown). (place_of item).0 < length histories) items) (on : StrNo)
    (on_is : on ≡ place_of (get_or items many d)) (place : ℕ) (place_is : place ≡ on.0) (entries : AnyHistory)
    (there : entries ≡ get_or histories place entries) (s : Seen) (s_is : s ≡ get_or table place s) (n : ℕ)
    (size : n ≡ any_length entries) where
  abbrev found : Shown
  found = get_or items many d

  few : (place_of found).0 < length histories
  few = known many d within

  number_is : place ≡ (place_of found).0
  number_is = place_is ∙ ap (λ (o : StrNo). o.0) on_is

  history_is : slice_get histories (place_of found).0 ≡ Some entries
  history_is =
      let low : place < length histories = omega (arith, few, number_is) in
      subst (λ (p : ℕ). slice_get histories p ≡ Some entries) number_is
      (slice_get-get_or histories place entries low ∙ ap (λ (e : AnyHistory). Some e) (sym there))

  seen_is : s ≡ seen_at table (place_of found)
  seen_is =
      let all : length table ≡ length histories = so_far.size in
      let low : place < length table = omega (arith, few, number_is, all) in
      s_is ∙ get_or_default table place s no_numbers low ∙ ap (λ (p : ℕ). get_or table p no_numbers) number_is

  as_found : (b : Bool) → is_in_order n s found ≡ b
      → is_in_order (any_length entries) (seen_at table (place_of found)) found ≡ b
  as_found b is = sym (ap (λ (m : ℕ). is_in_order m s found) size
      ∙ ap (λ (t : Seen). is_in_order (any_length entries) t found) seen_is) ∙ is

  pub stopped : is_in_order n s found ≡ false → AreInOrder histories items many
  stopped is = stops histories items table many so_far found d within refl few entries history_is (as_found false is)

  pub stepped : is_in_order n s found ≡ true → (after : Seen)
      → after ≡ seen_after s found → AreSoFar histories items (set table place after) (many + 1)
  stepped is after behind =
      let same : set table place after ≡ set table (place_of found).0 (seen_after (seen_at table (place_of found))
      found) = ap (λ (t : Seen). set table place t) (behind ∙ ap (λ (t : Seen). seen_after t found) seen_is)
      ∙ ap (λ (p : ℕ). set table p (seen_after (seen_at table (place_of found)) found)) number_is in
      subst (λ (t : List Seen). AreSoFar histories items t (many + 1)) (sym same)
      (one_more histories items table many so_far found d within refl few entries history_is (as_found true is))
