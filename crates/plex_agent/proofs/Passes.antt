-- What a caller's pass to a structure has to do with the items that it was shown, and goes on having as both grow.
use Rattle.plex_agent.proofs.Imports.{◌≡◌, ℕ, ◌≤◌, ◌==◌, false, List, [], ◌∷◌, ◌++◌, length, map, take, Some, None, refl, sym, ap, subst, ◌∙◌, arith, append-nil, append_assoc, slice_get, All, filter_map-append, All-take, All-same, StrForm, ConnId, StrNo, AnyHistory, Shown, own_calls, calls_on, length_on, number_on, numbers_on, sure_on, surest_on, IsNote, shown_on, seen_on, TellsOf, place_of, PassShown, IsLater, IsAnyTold, each_push, Each, max, fold, Option, filter_map, fold-append}
use Rattle.plex_agent.proofs.Fronts.{IsFront, front_same, front_then, take_front}
use Rattle.plex_agent.proofs.Hearings.{later_same}

-- ---- the greatest number that a reading gives

abbrev pub greatest : {X : Type 0} → (X → Option ℕ) → List X → ℕ
greatest reading xs = fold max 0 (filter_map reading xs)

pub greatest_push : {X : Type 0} (reading : X → Option ℕ) (xs : List X) (y : X) (most most' : ℕ) → greatest reading
    xs ≤ most → most ≤ most' → ((n : ℕ) → reading y ≡ Some n → n ≤ most') → greatest reading (xs ++ y ∷ []) ≤ most'
greatest_push {X} reading xs y most most' before grows here = grind (arith, filter_map-append, fold-append)

-- an item that a reading doesn't read
pub unread_push : {X : Type 0} {Y : Type 0} (reading : X → Option Y) (xs : List X) (y : X) → reading y ≡ None
    → filter_map reading (xs ++ y ∷ []) ≡ filter_map reading xs
unread_push reading xs y none = filter_map-append reading xs (y ∷ []) ∙ rw none (append-nil (filter_map reading xs))

-- ---- items of one structure

-- an item of this structure shows nothing of another
pub record IsOf (on : StrNo) (item : Shown) : Type 0 where
  pub numbers : (other : StrNo) → on.0 == other.0 ≡ false → number_on other item ≡ None
  pub seen : (other : StrNo) → on.0 == other.0 ≡ false → shown_on other item ≡ None
  pub sure : (other : StrNo) → on.0 == other.0 ≡ false → sure_on other item ≡ None

-- what items show of a structure is what the pass knows of it
pub record IsShown (on : StrNo) (pass : PassShown) (items : List Shown) : Type 0 where
  pub numbers : numbers_on on items ≡ map (λ call. call.no) pass.calls
  pub seen : seen_on on items ≤ pass.known
  pub sure : surest_on on items ≤ pass.sure
  pub reached : surest_on on items ≤ pass.known

shown_elsewhere : (on other : StrNo) (item : Shown) (pass : PassShown) (before : List Shown)
    → IsOf on item → on.0 == other.0 ≡ false → IsShown other pass before → IsShown other pass (before ++ item ∷ [])
shown_elsewhere on other item pass before of apart is = grind (arith, unread_push)

-- ---- passes beside the histories

-- a caller, with the forms and the histories of the structures
pub record Caller : Type 0 where
  pub forms : List StrForm
  pub histories : List AnyHistory
  pub conn : ConnId

-- what holds of an item behind others: a note's number is right, and a test tells what stood
abbrev pub IsGood : Caller → List Shown → Shown → Type 0
IsGood me before item = IsNote me.histories before item
    × ((form : StrForm) (entries : AnyHistory) → slice_get me.forms (place_of item).0 ≡ Some form → slice_get
    me.histories (place_of item).0 ≡ Some entries → TellsOf form entries me.conn (place_of item) before item)

-- the pass's calls, tests and numbers are in the histories
pub record IsWithin (me : Caller) (on : StrNo) (pass : PassShown) : Type 0 where
  pub calls : IsFront pass.calls (own_calls (calls_on me.histories on) me.conn)
  pub known : pass.known ≤ length_on me.histories on
  pub tests : (form : StrForm) (entries : AnyHistory) → slice_get me.forms on.0 ≡ Some form
      → slice_get me.histories on.0 ≡ Some entries → All (IsAnyTold form entries me.conn) pass.tests

module _ (me : Caller) where
  -- a pass came from one to another while these items were shown
  pub record Advances (on : StrNo) (pass pass' : PassShown) (part : List Shown) : Type 0 where
    pub owner : pass'.owner ≡ pass.owner
    pub calls : IsFront pass.calls pass'.calls
    pub back : IsWithin me on pass' → IsWithin me on pass
    pub forth : IsWithin me on pass' → (before : List Shown) → IsShown on pass before
        → Each (IsGood me) before → IsShown on pass' (before ++ part) × Each (IsGood me) (before ++ part)
    pub elsewhere : (other : StrNo) (there : PassShown) (before : List Shown)
        → on.0 == other.0 ≡ false → IsShown other there before → IsShown other there (before ++ part)

  pub advances_then : (on : StrNo) (first second third : PassShown) (part more : List Shown)
      → Advances on first second part → Advances on second third more → Advances on first third (part ++ more)
  advances_then on first second third part more one two = record {
    owner = two.owner ∙ one.owner;
    calls = front_then first.calls second.calls third.calls one.calls two.calls;
    back = λ within. one.back (two.back within);
    forth = λ within before is each. by_first before (one.forth (two.back within) before is each) within;
    elsewhere = λ other there before apart is. subst (IsShown other there) (append_assoc before part more)
        (two.elsewhere other there (before ++ part) apart (one.elsewhere other there before apart is));
  }
    where
      by_first : (before : List Shown) → IsShown on second (before ++ part) × Each (IsGood me) (before ++ part)
          → IsWithin me on third
          → IsShown on third (before ++ (part ++ more)) × Each (IsGood me) (before ++ (part ++ more))
      by_first before (is, each) within = subst (λ t. IsShown on third t × Each (IsGood me) t)
          (append_assoc before part more) (two.forth within (before ++ part) is each)

  -- ---- one item

  -- a pass came from one to another while one item was shown
  pub record Adds (on : StrNo) (pass pass' : PassShown) (item : Shown) : Type 0 where
    pub of : IsOf on item
    pub owner : pass'.owner ≡ pass.owner
    pub calls : IsFront pass.calls pass'.calls
    pub tests : IsFront pass.tests pass'.tests
    pub numbers : map (λ call. call.no) pass'.calls ≡ map (λ call. call.no) pass.calls ++ numbers_on on (item ∷ [])
    pub known : pass.known ≤ pass'.known
    pub sure : (n : ℕ) → n ≤ pass.sure → n ≤ pass.known → n ≤ pass'.sure
    pub seen_now : (n : ℕ) → shown_on on item ≡ Some n → n ≤ pass'.known
    pub sure_now : (n : ℕ) → sure_on on item ≡ Some n → n ≤ pass'.sure
    pub reached_now : (n : ℕ) → sure_on on item ≡ Some n → n ≤ pass'.known
    pub good : IsWithin me on pass' → (before : List Shown) → IsShown on pass before → IsGood me before item

  pub within_back : (on : StrNo) (pass pass' : PassShown) → IsFront pass.calls pass'.calls
      → IsFront pass.tests pass'.tests → pass.known ≤ pass'.known → IsWithin me on pass' → IsWithin me on pass
  within_back on pass pass' calls tests known within = record {
    calls = front_then _ _ _ calls within.calls;
    known = omega (arith, known, within.known);
    tests = λ form entries is there. All-same (IsAnyTold form entries me.conn) pass.tests
        (take (length pass.tests) pass'.tests) (sym (take_front _ _ _ refl tests)) (All-take
        (IsAnyTold form entries me.conn) (length pass.tests) pass'.tests (within.tests form entries is there));
  }

  pub advances_one : (on : StrNo) (pass pass' : PassShown) (item : Shown) → Adds on pass pass' item
      → Advances on pass pass' (item ∷ [])
  advances_one on pass pass' item adds = record {
    owner = adds.owner;
    calls = adds.calls;
    back = within_back on pass pass' adds.calls adds.tests adds.known;
    forth = λ within before is each. (
      shows before is,
      each_push (IsGood me) before item each (adds.good within before is),
    );
    elsewhere = λ other there before apart is. shown_elsewhere on other item there before adds.of apart is;
  }
    where
      shows : (before : List Shown) → IsShown on pass before → IsShown on pass' (before ++ item ∷ [])
      shows before is = record {
        numbers = filter_map-append (number_on on) before (item ∷ [])
            ∙ ap (λ t. t ++ numbers_on on (item ∷ [])) is.numbers ∙ sym adds.numbers;
        seen = greatest_push (shown_on on) before item pass.known pass'.known is.seen adds.known adds.seen_now;
        sure = greatest_push (sure_on on) before item (surest_on on before) pass'.sure (omega arith)
            (adds.sure (surest_on on before) is.sure is.reached) adds.sure_now;
        reached = greatest_push (sure_on on) before item pass.known pass'.known is.reached adds.known
            adds.reached_now;
      }

  -- a pass that knows more, while nothing is shown
  pub advances_later : (on : StrNo) (pass pass' : PassShown) → IsLater pass pass' → Advances on pass pass' []
  advances_later on pass pass' later = record {
    owner = ap (λ p. p.owner) later.same;
    calls = same_calls;
    back = within_back _ _ _ same_calls same_tests later.known;
    forth = λ within before is each. (
      subst (IsShown on pass') (sym (append-nil before)) (shows before is),
      subst (Each (IsGood me)) (sym (append-nil before)) each,
    );
    elsewhere = λ other there before apart is. subst (IsShown other there) (sym (append-nil before)) is;
  }
    where
      same_calls : IsFront pass.calls pass'.calls
      same_calls = subst (IsFront pass.calls) (ap (λ p. p.calls) (sym later.same)) (front_same _)

      same_tests : IsFront pass.tests pass'.tests
      same_tests = subst (IsFront pass.tests) (ap (λ p. p.tests) (sym later.same)) (front_same _)

      shows : (before : List Shown) → IsShown on pass before → IsShown on pass' before
      shows before is = grind arith

  pub advances_none : (on : StrNo) (pass : PassShown) → Advances on pass pass []
  advances_none on pass = advances_later on pass pass (later_same pass)
