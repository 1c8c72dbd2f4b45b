-- What the run by the machine alone has to do with what was done at a structure.
use Rattle.plex_agent.proofs.Imports.{◌≡◌, ◌≢◌, ℕ, ◌≤◌, ◌==◌, max, List, [], ◌∷◌, ◌++◌, Option, None, Some, sym, ap, ◌∙◌, arith, unwrap_or, filter_map-append, fold-append, ConnId, StrNo, AnyHistory, Shown, Transcript, AnyCall, any_take, end_of, shown_on, seen_on, PassShown, NoteShown, cond, AgentEnd}
use Rattle.plex_agent.proofs.Spots.{conn, str, put, put_all, same_number, other_number, Spot, is_same, is_other, put_same}

-- ---- what items show

pub seen_push : (on : StrNo) (items : List Shown) (item : Shown) (n : ℕ) → shown_on on item ≡ Some n
    → seen_on on (items ++ item ∷ []) ≡ max (seen_on on items) n
seen_push on items item n e = grind (arith, filter_map-append, fold-append)

pub seen_none : (on : StrNo) (items : List Shown) (item : Shown) → shown_on on item ≡ None
    → seen_on on (items ++ item ∷ []) ≡ seen_on on items
seen_none on items item e = grind (arith, filter_map-append, fold-append)

-- an item that shows this number of a structure, and nothing of the others
pub record ShowsNumber (on n : ℕ) (item : Shown) : Type 0 where
  pub here : shown_on (str on) item ≡ Some n
  pub elsewhere : (x : ℕ) → x ≢ on → shown_on (str x) item ≡ None

pub number_shown : (on n : ℕ) (item : Shown) → ((x : ℕ) → shown_on (str x) item ≡ cond (on == x) (Some n) None)
    → ShowsNumber on n item
number_shown on n item reads = grind (arith, is_same, is_other)

-- ---- agreement

-- The caller has seen complete all that it knows of the structure. It was shown no more; and just as much,
-- where this is said of it
pub record IsSeen (on : StrNo) (pass : PassShown) (items : List Shown) (shows : Type 0) : Type 0 where
  pub complete : pass.sure ≡ pass.known
  pub most : seen_on on items ≤ pass.sure
  pub seen : shows → seen_on on items ≡ pass.sure

abbrev pub sure_in : Option NoteShown → ℕ
sure_in None = 0
sure_in (Some note) = note.sure

abbrev pub known_in : Option NoteShown → ℕ
known_in None = 0
known_in (Some note) = note.known

pub record AgreesAt (callers : ℕ) (entries : AnyHistory) (x : ℕ) (shows : ℕ → Type 0) (spot : Spot)
    (transcripts : ℕ → Transcript) (history : Option AnyHistory) (number : Option ℕ) : Type 0 where
  pub history_is : history ≡ Some (any_take (end_of spot.events) entries)
  pub front_is : spot.front ≡ end_of spot.events
  pub seen : (c : ℕ) → c ≤ callers → (transcripts c).end ≡ AgentEnd.Done
      → IsSeen (str x) (spot.passes c) (transcripts c).items (shows c)
  pub lasts : (c : ConnId) → spot.last ≡ Some c → (spot.passes c.0).sure ≡ spot.front
  pub number_is : number ≡ Some (sure_in spot.note)
  pub noted : known_in spot.note ≡ sure_in spot.note

put_both : {X Y : Type 0} (P : ℕ → X → Y → Type 0) (at : ℕ) (x : X) (xs : ℕ → X) (y : Y) (ys : ℕ → Y) → P at x y
    → ((other : ℕ) → other ≢ at → P other (xs other) (ys other)) → (other : ℕ)
    → P other (put at x xs other) (put at y ys other)
put_both {X} {Y} P at x xs y ys here rest other = grind (arith, same_number, other_number)

-- the caller's pass and transcript changed
pub agrees_put : (callers : ℕ) (entries : AnyHistory) (x : ℕ) (shows shows' : ℕ → Type 0) (by : ℕ)
    (spot : Spot) (transcripts : ℕ → Transcript) (history history' : Option AnyHistory) (number number' : Option ℕ)
    (pass : PassShown) (note : Option NoteShown) (last : Option ConnId) (events : List AnyCall) (front : ℕ)
    (transcript : Transcript) → AgreesAt callers entries x shows spot transcripts history number → history' ≡ Some
    (any_take (end_of events) entries) → number' ≡ Some (sure_in note) → known_in note ≡ sure_in note → front ≡ end_of
    events → (transcript.end ≡ AgentEnd.Done → IsSeen (str x) pass transcript.items (shows' by)) → ((c : ℕ)
    → c ≢ by → shows' c → shows c) → ((c : ConnId) → last ≡ Some c → (put by pass spot.passes c.0).sure ≡ front)
    → AgreesAt callers entries x shows' (record {
      passes = put by pass spot.passes;
      note = note;
      last = last;
      events = events;
      front = front;
    }) (put by transcript transcripts) history' number'
agrees_put callers entries x shows shows' by spot transcripts history history' number number' pass note last
    events front transcript agrees history_is number_is noted front_is seen less lasts = grind (arith, put_both, str)

-- the same at another structure: nothing happened there
pub agrees_elsewhere : (callers : ℕ) (entries : AnyHistory) (x : ℕ) (shows shows' : ℕ → Type 0) (by : ℕ) (spot : Spot)
    (transcripts : ℕ → Transcript) (history : Option AnyHistory) (number : Option ℕ) (transcript : Transcript)
    → by ≤ callers → AgreesAt callers entries x shows spot transcripts history number
    → (transcript.end ≡ AgentEnd.Done → (transcripts by).end ≡ AgentEnd.Done)
    → seen_on (str x) transcript.items ≡ seen_on (str x) (transcripts by).items → ((c : ℕ) → shows' c → shows c)
    → AgreesAt callers entries x shows' spot (put by transcript transcripts) history number
agrees_elsewhere callers entries x shows shows' by spot transcripts history number transcript caller agrees works same
    less = grind (arith, put_all, str)

pub last_is : (by : ℕ) (c : ConnId) → Some (conn by) ≡ Some c → c.0 ≡ by
last_is by c e = sym (ap (λ o. (unwrap_or o (conn 0)).0) e)

-- who acted last has seen complete what its new pass has
pub lasts_put : (by : ℕ) (pass : PassShown) (passes : ℕ → PassShown) (front : ℕ) → pass.sure ≡ front → (c : ConnId)
    → Some (conn by) ≡ Some c → (put by pass passes c.0).sure ≡ front
lasts_put by pass passes front complete c is = ap (λ n. (put by pass passes n).sure) (last_is by c is)
    ∙ ap (λ p. p.sure) (put_same by pass passes) ∙ complete
