-- Where a history tells what the waits of items show, and no word has a bit past the vector's end, the items' tests
-- tell what stood; and the other way round, item by item.
use Rattle.std.proofs.Common.{◌≡◌, ℕ, zero, suc, ◌+◌, ◌*◌, ◌^◌, ◌<◌, ◌≤◌, ◌==◌, ◌&&◌, inl, inr, ◌⊎◌, Bool, true, false, if◌then◌else◌, List, [], ◌∷◌, ◌++◌, take, slice_get, Some, refl, sym, ap, subst, ◌∙◌, arith, append_assoc, append-nil, nat_lt}
use Rattle.std.proofs.lemmas.Bool.{cases_lt, false≢true}
use Rattle.std.proofs.lemmas.Bool.Decides.{nat_tests}
use Rattle.caller_slots.specs.RunShown.CfTypes.declared.forms.StrForm.{StrForm}
use Rattle.caller_slots.specs.RunShown.CfTypes.declared.numbers.ConnId.{ConnId}
use Rattle.caller_slots.specs.RunShown.CfTypes.declared.numbers.StrNo.{StrNo}
use Rattle.caller_slots.specs.RunShown.PlexScript.declared.asks.AnyHistory.{AnyHistory}
use Rattle.caller_slots.specs.RunShown.PlexScript.declared.transcripts.Shown.{Shown}
use Rattle.caller_slots.specs.RunShown.PlexScript.Follows.{surest_on}
use Rattle.caller_slots.specs.RunShown.Headline.{place_of, TellsBit, TellsOf, TestsTell}
use Rattle.caller_slots.specs.RunShown.Kinds.{AnyTells}
use Rattle.caller_slots.specs.RunShown.Numbers.{seen_on}
use Rattle.caller_items.specs.Orders.{IsSeen}
use Rattle.vector_waits.specs.declared.wait.Wait.{Wait}
use Rattle.vector_waits.proofs.Words.{word_has, word_made}
use Rattle.caller_waits.specs.Tests.{wait_of, own_bit, word_waits, item_waits, waits_at, waits_of, IsWithin, IsSmall, AllTell}
use Rattle.caller_waits.proofs.WordLaws.{word, word_next, own_word}

less_of : (a b : ℕ) → nat_lt a b ≡ true → a < b
less_of a b is = grind (arith, nat_tests)

of_less : (a b : ℕ) → a < b → nat_lt a b ≡ true
of_less a b is = grind (arith, nat_tests)

module _ (form : StrForm) (entries : AnyHistory) (conn : ConnId) where
  abbrev Told : List Wait → Type 0
  Told waits = AllTell form entries conn waits

  tell_left : (xs ys : List Wait) → Told (xs ++ ys) → Told xs
  tell_left [] ys told = tt
  tell_left (x ∷ xs) ys told = (told.0, tell_left xs ys told.1)

  tell_right : (xs ys : List Wait) → Told (xs ++ ys) → Told ys
  tell_right [] ys told = told
  tell_right (x ∷ xs) ys told = tell_right xs ys told.1

  tell_both : (xs ys : List Wait) → Told xs → Told ys → Told (xs ++ ys)
  tell_both [] ys one other = other
  tell_both (x ∷ xs) ys one other = (one.0, tell_both xs ys one.1 other)

  -- ---- the bits of a word

  module _ (at sure number value : ℕ) where
    abbrev Bit : ℕ → Type 0
    Bit k = AnyTells form entries at sure conn (32 * number + k) (own_bit value k)

    abbrev inside : ℕ → Bool
    inside k = nat_lt (32 * number + k) form.vector

    abbrev one : Bool → ℕ → List Wait
    one b k = if b then wait_of at sure (32 * number + k) (own_bit value k) ∷ [] else []

    abbrev rest : ℕ → ℕ → List Wait
    rest first many = word_waits form.vector at sure number value first many

    word_each : (first many : ℕ) → Told (rest first many) → (k : ℕ) → first ≤ k → k < first + many
        → inside k ≡ true → Bit k
    word_each first zero told k low high is = absurd (omega (arith, low, high))
    word_each first (suc many) told k low high is = elim (cases_lt first k) [
      | inl past ↦ word_each (first + 1) many (tell_right (one (inside first) first) (rest (first + 1) many) told) k
          (omega (arith, past)) (omega (arith, high)) is
      | inr not_past ↦
          let here : first ≡ k = omega (arith, low, not_past) in
          let is_here : inside first ≡ true = subst (λ (j : ℕ). inside j ≡ true) (sym here) is in
          let this : Told (one (inside first) first) =
          tell_left (one (inside first) first) (rest (first + 1) many) told in
          let that : Told (one true first) = subst (λ (b : Bool). Told (one b first)) is_here this in
          subst Bit here that.0
    ]

    word_all : (first many : ℕ) → ((k : ℕ) → first ≤ k → k < first + many → inside k ≡ true → Bit k)
        → Told (rest first many)
    word_all first zero each = tt
    word_all first (suc many) each = tell_both (one (inside first) first) (rest (first + 1) many)
        (by_test (inside first) refl)
        (word_all (first + 1) many (λ k low high is. each k (omega (arith, low)) (omega (arith, high)) is))
      where
        by_test : (b : Bool) → inside first ≡ b → Told (one b first)
        by_test true is = (each first (omega arith) (omega arith) is, tt)
        by_test false is = tt

  -- ---- an item

  module _ (before : List Shown) where
    -- what is right with an item
    pub item_tells : (item : Shown) → IsSmall item → IsSeen before item → IsWithin form.vector item → Told (item_waits
        form.vector (surest_on (place_of item) before) item) → TellsOf form entries conn (place_of item) before item
    item_tells (Shown.Test on index bit at) small seen fits told = record { seen = seen; tells = told.0 }
    item_tells (Shown.Word on number value at) small seen fits told = record {
      bits = own_bit value;
      made = word_made word (λ bits. refl) word_next value 32
          (own_bit value) (inside at (surest_on on before) number value) (own_word value 32 small) fits;
      each = λ k few within. record {
        seen = seen;
        tells = word_each at (surest_on on before) number value 0 32 told k (omega arith) (omega (arith, few))
            (of_less (32 * number + k) form.vector within);
      };
    }
    item_tells (Shown.Call on number) small seen fits told = tt
    item_tells (Shown.BadIndex on index number len) small seen fits told = tt
    item_tells (Shown.Posted on sure) small seen fits told = tt
    item_tells (Shown.Took on sure) small seen fits told = tt

    pub tells_waits : (item : Shown) → IsSmall item → TellsOf form entries conn (place_of item) before item
        → Told (item_waits form.vector (surest_on (place_of item) before) item)
    tells_waits (Shown.Test on index bit at) small tells = (tells.tells, tt)
    tells_waits (Shown.Word on number value at) small tells =
        word_all at (surest_on on before) number value 0 32 (λ k low high is. (
        let few : k < 32 = omega (arith, high) in
        let bit = tells.each k few (less_of (32 * number + k) form.vector is) in
        let has = word_has word (λ bits. refl) word_next value 32 (own_bit value)
        (inside at (surest_on on before) number value) (own_word value 32 small) tells.bits tells.made k few in
        subst (λ (b : Bool). AnyTells form entries at (surest_on on before) conn (32 * number + k) b)
        (sym (has.0 is)) bit.tells))
    tells_waits (Shown.Call on number) small tells = tt
    tells_waits (Shown.BadIndex on index number len) small tells = tt
    tells_waits (Shown.Posted on sure) small tells = tt
    tells_waits (Shown.Took on sure) small tells = tt

    pub tells_within : (item : Shown) → IsSmall item → TellsOf form entries conn (place_of item) before item
        → IsWithin form.vector item
    tells_within (Shown.Test on index bit at) small tells = tt
    tells_within (Shown.Word on number value at) small tells = λ k few is. (
        let has = word_has word (λ bits. refl) word_next value 32 (own_bit value) (inside
        at (surest_on on before) number value) (own_word value 32 small) tells.bits tells.made k few in has.1 is)
    tells_within (Shown.Call on number) small tells = tt
    tells_within (Shown.BadIndex on index number len) small tells = tt
    tells_within (Shown.Posted on sure) small tells = tt
    tells_within (Shown.Took on sure) small tells = tt

    -- a test, or a word that begins in the vector, isn't before what was seen
    pub test_seen : (on : StrNo) (index at : ℕ) (bit : Bool)
        → TellsOf form entries conn on before (Shown.Test on index bit at) → IsSeen before (Shown.Test on index bit at)
    test_seen on index at bit tells = tells.seen

    pub word_seen : (on : StrNo) (number value at : ℕ) → 32 * number < form.vector → TellsOf
        form entries conn on before (Shown.Word on number value at) → IsSeen before (Shown.Word on number value at)
    word_seen on number value at few tells = (let bit = tells.each 0 (omega arith) (omega (arith, few)) in bit.seen)

  -- ---- items, one after another

  same_test : (n : ℕ) → n == n ≡ true
  same_test n = grind (arith, nat_tests)

  at_item : (before items : List Shown) (k : ℕ) (item : Shown) → slice_get items k ≡ Some item
      → Told (waits_of (place_of item) form.vector before items)
      → Told (item_waits form.vector (surest_on (place_of item) (before ++ take k items)) item)
  at_item before [] k item at told = absurd cc
  at_item before (first ∷ items) zero item at told =
      let is : first ≡ item = cc in
      let on : StrNo = place_of item in
      let part : Told (waits_at on form.vector before first) =
      tell_left (waits_at on form.vector before first) (waits_of on form.vector (before ++ first ∷ []) items) told in
      let its : Told (waits_at on form.vector before item) =
      subst (λ (i : Shown). Told (waits_at on form.vector before i)) is part in
      let all : Told (item_waits form.vector (surest_on on before) item) = subst (λ (b : Bool). Told
      (if b then item_waits form.vector (surest_on on before) item else [])) (same_test on.0) its in
      subst (λ (b : List Shown). Told (item_waits form.vector (surest_on on b) item)) (sym (append-nil before)) all
  at_item before (first ∷ items) (suc k) item at told =
      let on : StrNo = place_of item in
      let behind = tell_right (waits_at on form.vector before first)
      (waits_of on form.vector (before ++ first ∷ []) items) told in
      let found = at_item (before ++ first ∷ []) items k item at behind in
      subst (λ (b : List Shown). Told (item_waits form.vector (surest_on on b) item))
      (append_assoc before (first ∷ []) (take k items)) found

-- all tests of a caller: no word and no test is before what was seen, no word has bits past its vector's end, and of
-- each structure the history tells what its waits show
pub waits_tell : (forms : List StrForm) (histories : List AnyHistory) (conn : ConnId) (items : List Shown)
    → ((k : ℕ) (item : Shown) → slice_get items k ≡ Some item → IsSmall item) → ((k : ℕ) (item : Shown) → slice_get
    items k ≡ Some item → IsSeen (take k items) item) → ((k : ℕ) (item : Shown) (form : StrForm) → slice_get
    items k ≡ Some item → slice_get forms (place_of item).0 ≡ Some form → IsWithin form.vector item) → ((on : StrNo)
    (form : StrForm) (entries : AnyHistory) → slice_get forms on.0 ≡ Some form → slice_get histories on.0 ≡ Some
    entries → AllTell form entries conn (waits_of on form.vector [] items)) → TestsTell forms histories conn items
waits_tell forms histories conn items small seen within told k item form entries at known there =
    item_tells form entries conn (take k items) item (small k item at) (seen k item at) (within k item form at known)
    (at_item form entries conn [] items k item at (told (place_of item) form entries known there))
