-- What has been done at one structure, by all callers, and what is known of it while a script runs.
use Rattle.plex_agent.proofs.Imports.{◌≡◌, ◌≢◌, ℕ, ◌≤◌, ◌<◌, ◌==◌, true, false, cond, List, [], ◌∷◌, ◌++◌, Option, None, Some, refl, ap, arith, append-nil, All, nat_tests, All-head, All-tail, All-push, All-weaker, filter-append, ConnId, StrNo, Told, AnyAsk, AnyCall, own_calls, Rising, AnyReply, PassShown, NoteShown, with_call}

abbrev pub conn : ℕ → ConnId
conn c = record { 0 = c }

abbrev pub str : ℕ → StrNo
str x = record { 0 = x }

-- ---- tables that are functions

abbrev pub put : {X : Type 0} → ℕ → X → (ℕ → X) → ℕ → X
put at x xs other = cond (other == at) x (xs other)

pub same_number : (m n : ℕ) → m == n ≡ true → m ≡ n
same_number m n e = grind (arith, nat_tests)

pub other_number : (m n : ℕ) → m == n ≡ false → m ≢ n
other_number m n e same = grind (arith, nat_tests)

pub is_same : (n : ℕ) → n == n ≡ true
is_same n = grind (arith, nat_tests)

pub is_other : (m n : ℕ) → m ≢ n → m == n ≡ false
is_other m n apart = grind (arith, nat_tests)

pub put_all : {X : Type 0} (P : ℕ → X → Type 0) (at : ℕ) (x : X) (xs : ℕ → X) → P at x
    → ((other : ℕ) → other ≢ at → P other (xs other)) → (other : ℕ) → P other (put at x xs other)
put_all {X} P at x xs here rest other = grind (arith, same_number, other_number)

pub put_same : {X : Type 0} (at : ℕ) (x : X) (xs : ℕ → X) → put at x xs at ≡ x
put_same at x xs = rw (is_same at) refl

pub put_other : {X : Type 0} (at : ℕ) (x : X) (xs : ℕ → X) (other : ℕ) → other ≢ at → put at x xs other ≡ xs other
put_other at x xs other apart = rw (is_other other at apart) refl

-- ---- calls whose numbers rise

abbrev pub AreBelow : ℕ → List AnyCall → Type 0
AreBelow front calls = All (λ call. call.no ≤ front) calls

pub rising_push : (low : ℕ) (calls : List AnyCall) (call : AnyCall) (front : ℕ) → low ≤ front → Rising low calls
    → AreBelow front calls → front < call.no → Rising low (calls ++ call ∷ [])
rising_push low [] call front least rising below above = (omega arith, tt)
rising_push low (first ∷ calls) call front least rising below above =
    let rest = All-tail (λ (call : AnyCall). call.no ≤ front) first calls below in
    let first_below = All-head (λ (call : AnyCall). call.no ≤ front) first calls below in
    (rising.0, rising_push first.no calls call front first_below rising.1 rest above)

pub own_push : (calls : List AnyCall) (call : AnyCall) (c : ℕ) → call.by.0 ≡ c
    → own_calls (calls ++ call ∷ []) (conn c) ≡ own_calls calls (conn c) ++ call ∷ []
own_push calls call c mine = grind (arith, is_same, filter-append)

pub own_push_other : (calls : List AnyCall) (call : AnyCall) (c : ℕ) → call.by.0 ≢ c
    → own_calls (calls ++ call ∷ []) (conn c) ≡ own_calls calls (conn c)
own_push_other calls call c apart = grind (arith, is_other, filter-append, append-nil)

-- ---- a structure

-- the callers' passes, the note in the tray, who acted last; all calls that were made, in the order of the run, and a
-- number that no pass is above
pub record Spot : Type 0 where
  pub passes : ℕ → PassShown
  pub note : Option NoteShown
  pub last : Option ConnId
  pub events : List AnyCall
  pub front : ℕ

pub record IsKnownPass (events : List AnyCall) (front c : ℕ) (pass : PassShown) : Type 0 where
  pub owner : pass.owner ≡ conn c
  pub sure : pass.sure ≤ pass.known
  pub within : pass.known ≤ front
  pub calls : pass.calls ≡ own_calls events (conn c)

-- the front is 0 while nobody acted; who acted last knows it
abbrev pub LastKnows : ℕ → Spot → Option ConnId → Type 0
LastKnows callers spot None = (spot.front ≡ 0) × (spot.events ≡ [])
LastKnows callers spot (Some c) = (c.0 ≤ callers) × ((spot.passes c.0).known ≡ spot.front)

abbrev pub IsKnownNote : ℕ → Option NoteShown → Type 0
IsKnownNote front None = Unit {0}
IsKnownNote front (Some note) = (note.sure ≤ note.known) × (note.known ≤ front)

pub record IsKnown (callers : ℕ) (spot : Spot) : Type 0 where
  pub pass : (c : ℕ) → c ≤ callers → IsKnownPass spot.events spot.front c (spot.passes c)
  pub rising : Rising 0 spot.events
  pub below : AreBelow spot.front spot.events
  pub by : All (λ call. call.by.0 ≤ callers) spot.events
  pub lasts : LastKnows callers spot spot.last
  pub noted : IsKnownNote spot.front spot.note

-- ---- what a caller does there

-- its pass became this, and what else is told of the structure is as in another one
abbrev pub changed : ℕ → PassShown → Spot → Spot → Spot
changed by pass rest spot = record rest { passes = put by pass spot.passes }

-- it acted last, and its pass knows the front
abbrev pub at_front : ℕ → PassShown → Spot → Spot
at_front by pass spot = record spot { last = Some (conn by); front = pass.known }

abbrev pub moved : ℕ → PassShown → Spot → Spot
moved by pass spot = changed by pass (at_front by pass spot) spot

-- this note lies in the tray, and it isn't said to have acted
abbrev pub noticed : ℕ → PassShown → Option NoteShown → Spot → Spot
noticed by pass note spot = changed by pass (record spot { note = note }) spot

abbrev pub event : ℕ → AnyAsk → Told → AnyCall
event by asked told = record { no = told.no; by = conn by; ask = asked; told = told }

-- it was answered a call
abbrev pub with_event : ℕ → AnyAsk → Told → Spot → Spot
with_event by asked told spot = record spot { events = spot.events ++ event by asked told ∷ []; front = told.no }

abbrev pub called : ℕ → AnyAsk → Told → AnyReply → Spot → Spot
called by asked told reply spot =
    changed by (with_call asked told reply (spot.passes by)) (with_event by asked told spot) spot

note_later : (front front' : ℕ) (note : Option NoteShown) → front ≤ front' → IsKnownNote front note
    → IsKnownNote front' note
note_later front front' None later noted = tt
note_later front front' (Some note) later noted = (noted.0, omega (arith, noted.1))

below_later : (front front' : ℕ) (calls : List AnyCall) → front ≤ front' → AreBelow front calls
    → AreBelow front' calls
below_later front front' calls later below = grind (arith, All-weaker)

pub known_moved : (callers by : ℕ) (spot : Spot) (pass : PassShown) → by ≤ callers → IsKnown callers spot
    → spot.front ≤ pass.known → pass.sure ≤ pass.known → pass.owner ≡ (spot.passes by).owner
    → pass.calls ≡ (spot.passes by).calls → IsKnown callers (moved by pass spot)
known_moved callers by spot pass caller known later sure owner calls =
    grind (arith, put_all, below_later, put_same, note_later)

pub known_noticed : (callers by : ℕ) (spot : Spot) (pass : PassShown) (note : Option NoteShown) → by ≤ callers
    → IsKnown callers spot → (spot.passes by).known ≤ pass.known → pass.known ≤ spot.front → pass.sure ≤ pass.known
    → pass.owner ≡ (spot.passes by).owner → pass.calls ≡ (spot.passes by).calls → IsKnownNote spot.front note
    → IsKnown callers (noticed by pass note spot)
known_noticed callers by spot pass note caller known later within sure owner calls noted = grind (arith, put_all)

pub known_called : (callers by : ℕ) (spot : Spot) (asked : AnyAsk) (told : Told) (reply : AnyReply) → by ≤ callers
    → IsKnown callers spot
    → spot.last ≡ Some (conn by) → spot.front < told.no → IsKnown callers (called by asked told reply spot)
known_called callers by spot asked told reply caller known last above =
    let call = event by asked told in
    let before = spot.passes by in
    let mine = known.pass by caller in
    let named = ap (λ o. before.calls ++ record { no = told.no; by = o; ask = asked; told = told } ∷ []) mine.owner in
    record {
      pass = grind (arith, put_all, own_push, own_push_other);
      rising = rising_push 0 _ _ _ (omega arith) known.rising known.below above;
      below = All-push (λ call. call.no ≤ told.no) spot.events call
          (below_later _ _ _ (omega arith) known.below) (omega arith);
      by = All-push (λ call. call.by.0 ≤ callers) spot.events call known.by caller;
      lasts = grind (arith, put_same);
      noted = note_later _ _ _ (omega arith) known.noted;
    }
