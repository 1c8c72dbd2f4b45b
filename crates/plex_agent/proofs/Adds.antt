-- What each kind of item does to a pass: calls, tests, posts and takes.
use Rattle.plex_agent.proofs.Imports.{◌≡◌, ℕ, ◌+◌, ◌*◌, ◌^◌, ◌≤◌, ◌<◌, ◌==◌, ◌&&◌, nat_lt, Bool, true, false, List, [], ◌∷◌, ◌++◌, map, Some, None, refl, sym, ◌∙◌, arith, append-nil, slice_get, cond, All, bit_at, ltb-false, map-append, All-head, StrForm, ConnId, StrNo, Entry, Told, Meaning, Tells, altered_caches, queued_lists, lock_meaning, AnyAsk, AnyHistory, Shown, AnyCall, surest_on, seen_on, TellsBit, TellsWord, place_of, Sight, bit_in, sight, indices_of, IsTold, AnyReply, PassShown, IsLater, with_call, IsAnyTold, told_past, each_sight, bit_in_word, AnyTells, all_bits}
use Rattle.plex_agent.proofs.Passes.{Caller, IsOf, IsShown, IsWithin, Adds}
use Rattle.plex_agent.proofs.{Fronts.front_same, Fronts.front_more, Spots.is_same, Lookups.all_behind}

-- ---- readings

of_item : (item : Shown) → IsOf (place_of item) item
of_item (Shown.Call place number) = grind arith
of_item (Shown.Test place index bit at) =
    record { numbers = λ other apart. refl; seen = λ other apart. rw apart refl; sure = λ other apart. refl }
of_item (Shown.Word place word bits at) =
    record { numbers = λ other apart. refl; seen = λ other apart. rw apart refl; sure = λ other apart. refl }
of_item (Shown.BadIndex place index word len) =
    record { numbers = λ other apart. refl; seen = λ other apart. refl; sure = λ other apart. refl }
of_item (Shown.Posted place sure) =
    record { numbers = λ other apart. refl; seen = λ other apart. rw apart refl; sure = λ other apart. rw apart refl }
of_item (Shown.Took place sure) =
    record { numbers = λ other apart. refl; seen = λ other apart. rw apart refl; sure = λ other apart. rw apart refl }

-- a number that is read of an item of this structure is the one that the item shows
number_read : (place number n most : ℕ) → cond (place == place) (Some number) None ≡ Some n → number ≤ most → n ≤ most
number_read place number n most read small = grind (arith, is_same)

-- ---- tests

module _ {C R I S : Type 0} (meaning : Meaning C R I S) (form : StrForm) (entries : List (Entry C R)) (conn : ConnId)
    (test : Sight) (sure : ℕ) where
  tells_less : IsTold meaning form entries conn.0 test → test.index < form.vector → sure ≤ test.sure
      → Tells meaning form entries test.at sure conn test.index test.bit
  tells_less told inside less = grind arith

-- a test tells what stood at a point that isn't before less, either
told_tells : (form : StrForm) (entries : AnyHistory) (conn : ConnId) (test : Sight) (sure : ℕ)
    → IsAnyTold form entries conn test
    → test.index < form.vector → sure ≤ test.sure → AnyTells form entries test.at sure conn test.index test.bit
told_tells form (AnyHistory.Cache entries) conn test sure = tells_less altered_caches form entries conn test sure
told_tells form (AnyHistory.List entries) conn test sure = tells_less queued_lists form entries conn test sure
told_tells form (AnyHistory.Lock entries) conn test sure = tells_less lock_meaning form entries conn test sure

-- ---- words

module _ (form : StrForm) (entries : AnyHistory) (conn : ConnId) (on : StrNo) (before : List Shown)
    (word bits at sure : ℕ) (told : All (IsAnyTold form entries conn) (map (sight bits at sure) (indices_of word)))
    (small : bits < 2 ^ 32) (seen : seen_on on before ≤ at) (less : surest_on on before ≤ sure) where
  bit_told : (k : ℕ) → k < 32 → IsAnyTold form entries conn (sight bits at sure (32 * word + k))
  bit_told k within = each_sight (IsAnyTold form entries conn) word bits at sure k told within

  bit_shown : (k : ℕ) → k < 32
      → (nat_lt (32 * word + k) form.vector && bit_in bits (32 * word + k)) ≡ (bit_at bits k == 1)
  bit_shown k within = by_place (nat_lt (32 * word + k) form.vector) refl
    where
      by_place : (b : Bool) → nat_lt (32 * word + k) form.vector ≡ b
          → (nat_lt (32 * word + k) form.vector && bit_in bits (32 * word + k)) ≡ (bit_at bits k == 1)
      by_place true inside = rw inside (bit_in_word bits word k within)
      by_place false past = rw past (sym (told_past form entries conn (sight bits at sure (32 * word + k))
          (bit_told k within) (ltb-false (32 * word + k) form.vector past)) ∙ bit_in_word bits word k within)

  -- the tests of a word's indices tell what the word shows
  word_tells : TellsWord form entries conn on before at word bits
  word_tells = record {
    bits = λ k. bit_in bits (32 * word + k);
    made = sym
        (all_bits _ _ (λ k. nat_lt (32 * word + k) form.vector && bit_in bits (32 * word + k)) small bit_shown);
    each = λ k within inside. record {
      seen = seen;
      tells = told_tells _ _ _ _ _ (bit_told k within) inside less;
    };
  }

-- ---- items

module _ (me : Caller) (on : StrNo) (pass : PassShown) where
  pub call_adds : (asked : AnyAsk) (told : Told) (reply : AnyReply) → pass.known < told.no
      → Adds me on pass (with_call asked told reply pass) (Shown.Call on told.no)
  call_adds asked told reply above = grind (arith, is_same, of_item, front_more, front_same, map-append, number_read)

  abbrev pub with_test : ℕ → Bool → ℕ → PassShown
  with_test index bit at = record pass {
    known = at;
    tests = pass.tests ++ record { index = index; bit = bit; at = at; sure = pass.sure } ∷ [];
  }

  pub test_adds : (index : ℕ) (bit : Bool) (at : ℕ) → pass.known ≤ at → ((form : StrForm) → slice_get me.forms
      on.0 ≡ Some form → index < form.vector) → Adds me on pass (with_test index bit at) (Shown.Test on index bit at)
  test_adds index bit at later inside = record {
    of = of_item _;
    owner = refl;
    calls = front_same _;
    tests = front_more _ _;
    numbers = sym (append-nil (map (λ call. call.no) pass.calls));
    known = later;
    sure = λ n less small. less;
    seen_now = λ n read. number_read _ at n at read (omega arith);
    sure_now = λ n read. absurd (cc read);
    reached_now = λ n read. absurd (cc read);
    good = λ within before is. (tt, λ form entries known there. tells within before is form entries known there);
  }
    where
      tells : IsWithin me on (with_test index bit at) → (before : List Shown) → IsShown on pass before
          → (form : StrForm) (entries : AnyHistory) → slice_get me.forms on.0 ≡ Some form
          → slice_get me.histories on.0 ≡ Some entries → TellsBit form entries me.conn on before at index bit
      tells within before is form entries known there =
          let test : Sight = record { index = index; bit = bit; at = at; sure = pass.sure } in
          let told = All-head (IsAnyTold form entries me.conn) test [] (all_behind
          (IsAnyTold form entries me.conn) pass.tests (test ∷ []) (within.tests form entries known there)) in
          record {
            seen = omega (arith, is.seen, later);
            tells = told_tells _ _ _ _ _ told (inside form known) is.sure;
          }

  abbrev pub with_word : ℕ → ℕ → ℕ → PassShown
  with_word word bits at =
      record pass { known = at; tests = pass.tests ++ map (sight bits at pass.sure) (indices_of word) }

  pub word_adds : (word bits at : ℕ) → bits < 2 ^ 32 → pass.known ≤ at
      → Adds me on pass (with_word word bits at) (Shown.Word on word bits at)
  word_adds word bits at small later = record {
    of = of_item (Shown.Word on word bits at);
    owner = refl;
    calls = front_same pass.calls;
    tests = front_more pass.tests _;
    numbers = sym (append-nil (map (λ (call : AnyCall). call.no) pass.calls));
    known = later;
    sure = λ n less small. less;
    seen_now = λ n read. number_read on.0 at n at read (omega arith);
    sure_now = λ n read. absurd (cc read);
    reached_now = λ n read. absurd (cc read);
    good = λ within before is. (
      tt,
      λ form entries known there. word_tells form entries me.conn on before word bits at pass.sure (all_behind
          (IsAnyTold form entries me.conn) pass.tests (map (sight bits at pass.sure) (indices_of word))
          (within.tests form entries known there)) small (omega (arith, is.seen, later)) is.sure,
    );
  }

  pub bad_adds : (index : ℕ) (word : Bool) (len : ℕ) → Adds me on pass pass (Shown.BadIndex on index word len)
  bad_adds index word len = grind (arith, of_item, front_same, append-nil)

  pub post_adds : pass.sure ≤ pass.known → Adds me on pass pass (Shown.Posted on pass.sure)
  post_adds ordered = grind (arith, of_item, front_same, append-nil, number_read)

  pub take_adds : (pass' : PassShown) → IsLater pass pass' → pass'.sure ≤ pass'.known
      → Adds me on pass pass' (Shown.Took on pass'.sure)
  take_adds pass' later ordered = grind (arith, of_item, append-nil, number_read)
