-- What the histories that are left at the end have to do with what was done at a structure so far.
use Rattle.plex_agent.proofs.Imports.{◌≡◌, ℕ, ◌≤◌, ◌<◌, ◌==◌, List, [], ◌∷◌, ◌++◌, fold, Option, None, Some, sym, ap, subst, ◌∙◌, arith, append_assoc, All, if◌then◌else◌, StrForm, ConnId, CfId, Telling, Told, AnyAsk, AnyHistory, AnyCall, any_calls, any_length, IsAnyLegal, AreAnyAsTold, any_take, any_next, any_told, any_numbers, end_of, last_number, next_call, IsFrontOf, front_of, numbers_of, numbers_any, IsBefore, AreMadeBelow, AnyReply, PassShown, with_call, note_of, IsAnyTold, with_note}
use Rattle.plex_agent.proofs.Spots.{conn, put, same_number, Spot, IsKnown, LastKnows, event, called, changed}

pub put_back : {X : Type 0} (P : ℕ → X → Type 0) (at : ℕ) (x : X) (xs : ℕ → X) → (P at x → P at (xs at))
    → (other : ℕ) → P other (put at x xs other) → P other (xs other)
put_back {X} P at x xs back other is = grind (arith, same_number)

-- the calls so far are a beginning of the history's, no pass knows the number of a later one, and the history tells
-- all tests
pub record FitsAt (form : StrForm) (entries : AnyHistory) (callers : ℕ) (spot : Spot) : Type 0 where
  pub more : List AnyCall
  pub calls : any_calls entries ≡ spot.events ++ more
  pub before : IsBefore spot.front more
  pub tests : (c : ℕ) → c ≤ callers → All (IsAnyTold form entries (conn c)) (spot.passes c).tests

-- the entries of those calls
pub events_front : (form : StrForm) (entries : AnyHistory) (callers : ℕ) (spot : Spot) → IsAnyLegal form entries
    → FitsAt form entries callers spot → IsFrontOf entries spot.events
events_front form entries callers spot legal fits = front_of form entries legal spot.events fits.more fits.calls

before_less : (low high : ℕ) (more : List AnyCall) → low ≤ high → IsBefore high more → IsBefore low more
before_less low high [] least before = tt
before_less low high (call ∷ more) least before = omega (arith, before)

-- a pass changed, and the front didn't fall
pub fits_put : (form : StrForm) (entries : AnyHistory) (callers by : ℕ) (spot rest : Spot) (pass : PassShown)
    → rest.events ≡ spot.events → spot.front ≤ rest.front → (All (IsAnyTold form entries (conn by)) pass.tests
    → All (IsAnyTold form entries (conn by)) (spot.passes by).tests)
    → FitsAt form entries callers (changed by pass rest spot) → FitsAt form entries callers spot
fits_put form entries callers by spot rest pass same later tests fits = record {
  more = fits.more;
  calls = fits.calls ∙ ap (λ calls. calls ++ fits.more) same;
  before = before_less spot.front rest.front fits.more later fits.before;
  tests = λ c within. put_back (λ c pass. All (IsAnyTold form entries (conn c)) pass.tests)
      by pass spot.passes tests c (fits.tests c within);
}

pub fits_called : (form : StrForm) (entries : AnyHistory) (callers by : ℕ)
    (spot : Spot) (asked : AnyAsk) (told : Told) (reply : AnyReply) → spot.front < told.no
    → FitsAt form entries callers (called by asked told reply spot) → FitsAt form entries callers spot
fits_called form entries callers by spot asked told reply above fits = record {
  more = event by asked told ∷ fits.more;
  calls = fits.calls ∙ append_assoc spot.events (event by asked told ∷ []) fits.more;
  before = above;
  tests = λ c within. put_back (λ c pass. All (IsAnyTold form entries (conn c)) pass.tests)
      by (with_call asked told reply (spot.passes by)) spot.passes (λ is. is) c (fits.tests c within);
}

-- a call came to a journal with room
made_at : (limit last : ℕ) (front : List AnyCall) (call : AnyCall) (more : List AnyCall)
    → AreMadeBelow limit last (numbers_of (front ++ call ∷ more)) → fold last_number last front < limit
made_at limit last [] call more made = made.0
made_at limit last (first ∷ front) call more made = made_at limit first.no front call more made.1

-- a call of the history is its machine's next behind the entries up to n, told as it tells it; and the journal had room
pub record IsNextCall (limit : ℕ) (form : StrForm) (tells : CfId → Telling) (entries : AnyHistory) (by : ℕ) (n : ℕ)
    (asked : AnyAsk) (told : Told) : Type 0 where
  pub size : any_length (any_take n entries) ≡ n
  pub room : n < limit
  pub next : any_take told.no entries ≡ any_next form tells (any_take n entries) (conn by) asked
  pub number : told.no ≡ any_length (any_next form tells (any_take n entries) (conn by) asked)
  pub answer : told ≡ any_told form tells (any_take n entries) (conn by) asked

pub is_next_call : (limit : ℕ) (form : StrForm) (tells : CfId → Telling) (entries : AnyHistory)
    (callers by : ℕ) (spot : Spot) (asked : AnyAsk) (told : Told) (reply : AnyReply) → IsAnyLegal form entries
    → AreAnyAsTold form tells entries → AreMadeBelow limit 0 (any_numbers entries) → FitsAt form entries
    callers (called by asked told reply spot) → IsNextCall limit form tells entries by (end_of spot.events) asked told
is_next_call limit form tells entries callers by spot asked told reply legal as_told made fits =
    let calls = fits.calls ∙ append_assoc spot.events (event by asked told ∷ []) fits.more in
    let next = next_call form tells entries legal as_told spot.events (event by asked told) fits.more calls in
    let numbers = sym (numbers_any entries) ∙ ap numbers_of calls in
    let front = front_of form entries legal spot.events (event by asked told ∷ fits.more) calls in
    record {
      size = front.size;
      room = made_at limit 0 spot.events (event by asked told) fits.more (subst (AreMadeBelow limit 0) numbers made);
      next = next.next;
      number = next.number;
      answer = next.answer;
    }

-- ---- hearings

-- the pass once it was told what the one who acted last knows
abbrev pub heard_as : ℕ → Spot → Option ConnId → PassShown
heard_as by spot None = spot.passes by
heard_as by spot (Some other) =
    if other.0 == by then spot.passes by else with_note (note_of (spot.passes other.0)) (spot.passes by)

abbrev pub heard_pass : ℕ → Spot → PassShown
heard_pass by spot = heard_as by spot spot.last

pub record IsHeardPass (by : ℕ) (spot : Spot) (pass : PassShown) : Type 0 where
  pub known : pass.known ≡ spot.front
  pub sure : pass.sure ≤ pass.known
  pub more : (spot.passes by).sure ≤ pass.sure
  pub owner : pass.owner ≡ (spot.passes by).owner
  pub calls : pass.calls ≡ (spot.passes by).calls
  pub tests : pass.tests ≡ (spot.passes by).tests

pub heard_is : (callers by : ℕ) (spot : Spot) → by ≤ callers → IsKnown callers spot
    → IsHeardPass by spot (heard_pass by spot)
heard_is callers by spot caller known = grind (arith, same_number, LastKnows)

-- who hears of complete calls alone has seen all of them complete
pub heard_complete : (callers by : ℕ) (spot : Spot) → by ≤ callers → IsKnown callers spot → ((c : ConnId) →
    spot.last ≡ Some c → (spot.passes c.0).sure ≡ spot.front) → (heard_pass by spot).sure ≡ (heard_pass by spot).known
heard_complete callers by spot caller known complete = grind (arith, same_number, LastKnows)
