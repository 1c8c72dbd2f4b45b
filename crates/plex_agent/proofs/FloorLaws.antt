-- A floor of a board: as it begins, as one caller changes or hears, and as who acted last changes.
use Rattle.plex_agent.proofs.Imports.{◌≡◌, ◌≢◌, ℕ, ◌+◌, ◌<◌, ◌≤◌, ◌==◌, Bool, true, false, if◌then◌else◌, List, ◌∷◌, ◌++◌, [], append_assoc, append-nil, drop, replicate, length, length-append, Option, Some, None, get_or, set, refl, sym, ◌∙◌, ap, subst, arith, drop-cons, set-append_seam, map-set_same, get_or-append_seam, add-one, eqb-true, get_or_read, get_or_append_left, set-append_left, set-get_or, length-replicate, replicate_more, slice_get_within, slice_get-get_or, get_or_from_slice_get, CONNECTORS, ConnId, StrNo, Transcript, NoteShown, note_of, with_note, DeskShown, no_pass, fixed_of, pass_at, with_pass, BoardShown, IsDeskOf, IsTrayOf, no_notes, AtWork, Floor, no_worker, new_floor, worker_of, with_worker, heard_from_last, heard_from, told_by, IsFloorOf, crew_of, get_or-replicate, slice_get, drop_all}
use Rattle.std.proofs.Math.ListN.{length-set}
use Rattle.plex_agent.proofs.SeatedLaws.{own_desk, callers-set, slice_get-set, new_callers}
use Rattle.plex_agent.proofs.Lookups.{some_same}

replicate_is : {X : Type 0} (n x : ℕ) (y z : X) → slice_get (replicate n y) x ≡ Some z → z ≡ y
replicate_is n x y z there = sym (get_or_from_slice_get (replicate n y) x z z there)
    ∙ get_or-replicate n x y z (omega (arith, slice_get_within (replicate n y) x z there, length-replicate n y))

-- a floor by its parts, and a caller by its own
abbrev pub floor_of : List AtWork → List (Option NoteShown) → List (Option ConnId) → Floor
floor_of workers tray last = record { workers = workers; tray = tray; last = last }

abbrev pub at_desk : DeskShown → Transcript → AtWork
at_desk desk shown = record { desk = desk; shown = shown }

-- a caller's work that is put where it stands
same_worker : (floor : Floor) (by : ConnId) → with_worker by (worker_of floor by) floor ≡ floor
same_worker floor by = grind (arith, set-get_or)

module _ {L : Type 0} {board : BoardShown L} {floor : Floor} (fits : IsFloorOf board floor) where
  -- one caller changed, at its own desk
  worker_fits : (by : ConnId) (worker : AtWork) → IsDeskOf board worker.desk → worker.desk.owner ≡ by
      → IsFloorOf board (with_worker by worker floor)
  worker_fits by worker right own = record {
    workers = callers-set board floor.workers fits.workers by worker right own;
    few = fits.few;
    tray = fits.tray;
    places = fits.places;
    actors = fits.actors;
  }

  tray_fits : (tray : List (Option NoteShown)) → IsTrayOf board tray → IsFloorOf board (record floor { tray = tray })
  tray_fits tray right = grind arith

  -- ---- who acted last

  -- the last that acted on a structure is a caller
  actor_is : (x : ℕ) (other : ConnId) → x < length board.cells → get_or floor.last x None ≡ Some other
      → other.0 ≤ board.callers
  actor_is x other inside is = grind (arith, slice_get-get_or)

  -- a caller has acted on a structure
  pub acted_fits : (by : ConnId) (on : ℕ) → by.0 ≤ board.callers
      → IsFloorOf board (record floor { last = set floor.last on (Some by) })
  acted_fits by on within = grind (arith, length-set, slice_get-set)

  -- a caller has acted on every structure
  everywhere_fits : (by : ConnId) → by.0 ≤ board.callers
      → IsFloorOf board (record floor { last = replicate (length floor.last) (Some by) })
  everywhere_fits by within = grind (arith, length-replicate, some_same, replicate_is)

  -- ---- hearings

  -- a caller that was told something is at its own desk still
  told_fits : (by other : ConnId) (on : StrNo) → by.0 ≤ board.callers
      → IsFloorOf board (with_worker by (told_by floor on other (worker_of floor by)) floor)
  told_fits by other on within =
      let own = own_desk board floor.workers fits.workers by within in
      worker_fits _ _ (map-set_same fixed_of (worker_of floor by).desk.passes on.0 _ no_pass refl ∙ own.0) own.1

  pub heard_fits : (by : ConnId) (on : StrNo) → by.0 ≤ board.callers
      → IsFloorOf board (with_worker by (heard_from_last floor by (worker_of floor by) on) floor)
  heard_fits by on within = from (get_or floor.last on.0 None)
    where
      from : (o : Option ConnId)
          → IsFloorOf board (with_worker by (heard_from floor by on o (worker_of floor by)) floor)
      from None = subst (IsFloorOf board) (sym (same_worker floor by)) fits
      from (Some other) = go (other.0 == by.0)
        where
          go : (b : Bool) → IsFloorOf board (with_worker by
              (if b then worker_of floor by else told_by floor on other (worker_of floor by)) floor)
          go true = subst (IsFloorOf board) (sym (same_worker floor by)) fits
          go false = told_fits by other on within

-- ---- as the board begins

pub new_floor_fits : {L : Type 0} (board : BoardShown L) → board.callers ≤ CONNECTORS → IsTrayOf board (no_notes board)
    → IsFloorOf board (new_floor board)
new_floor_fits board few tray_is_of = record {
  workers = new_callers board;
  few = few;
  tray = tray_is_of;
  places = length-replicate (length board.cells) None;
  actors = λ x conn there.
      let same : Some conn ≡ None = replicate_is (length board.cells) x None (Some conn) there in cc;
}

-- ---- a list that is written from its front on

pub filled_more : {X : Type 0} (xs : List X) (old : List X) (n : ℕ) (y : X)
    → xs ≡ replicate n y ++ drop n old → n < length old → set xs n y ≡ replicate (n + 1) y ++ drop (n + 1) old
filled_more xs old n y is below =
    let at_end : drop n old ≡ get_or old n y ∷ drop (n + 1) old = rw add-one (drop-cons old n y below) in
    let front = replicate n y in
    let rest = drop (n + 1) old in
    ap (λ l. set l n y) (is ∙ ap (λ l. front ++ l) at_end) ∙ ap (λ k. set (front ++ get_or
    old n y ∷ rest) k y) (sym (length-replicate n y)) ∙ set-append_seam front (get_or old n y) rest y
    ∙ sym (append_assoc front (y ∷ []) rest) ∙ ap (λ l. l ++ rest) (replicate_more n y)

-- it is written to its end
pub filled_all : {X : Type 0} (y : X) {xs items old last : List X} {n : ℕ} → xs ≡ items → items ≡ replicate
    n y ++ drop n old → length old ≤ n → n ≤ length old → old ≡ last → xs ≡ replicate (length last) y
filled_all y xs_are items_are over under old_is = grind (arith, drop_all, append-nil)

-- ---- one caller within a floor

-- A caller of the floor, as it is found in its place among the floor's parts: with this desk, which is its own and the
-- board's, and shown this
pub record IsFound {L : Type 0} (board : BoardShown L) (workers : List AtWork) (tray : List (Option NoteShown))
    (last : List (Option ConnId)) (floor : Floor) (by : ConnId) (at : ℕ) (desk : DeskShown) (shown : Transcript)
    : Type 0 where
  pub parts : floor_of workers tray last ≡ floor
  pub place : at ≡ by.0
  pub of_board : IsFloorOf board floor
  pub is : worker_of floor by ≡ at_desk desk shown
  pub fits : IsDeskOf board desk
  pub own : desk.owner ≡ by

pub found : {L : Type 0} {board : BoardShown L} {workers : List AtWork} {tray : List (Option NoteShown)}
    {last : List (Option ConnId)} {floor : Floor} {by : ConnId} {at : ℕ} {desk : DeskShown} {shown : Transcript}
    {worker : AtWork} → IsFloorOf board floor → by.0 ≤ board.callers → floor_of workers tray last ≡ floor
    → at ≡ by.0 → at_desk desk shown ≡ worker → worker ≡ get_or workers at worker
    → IsFound board workers tray last floor by at desk shown
found {board} {floor} {by} {at} {worker} fits within parts place view there =
    let counted = fits.workers.callers in
    let inside : by.0 < length floor.workers = omega arith in
    let here = there ∙ ap (λ f. get_or f.workers at worker) parts ∙ ap (λ n. get_or floor.workers n worker) place in
    let same = sym (get_or_read floor.workers by.0 worker inside here no_worker) ∙ sym view in
    let own = own_desk board floor.workers fits.workers by within in
    record {
      parts = parts;
      place = place;
      of_board = fits;
      is = same;
      fits = subst (λ w. IsDeskOf board w.desk) same own.0;
      own = ap (λ w. w.desk.owner) (sym same) ∙ own.1;
    }

module _ {L : Type 0} {board : BoardShown L} {workers : List AtWork} {tray : List (Option NoteShown)}
    {last : List (Option ConnId)} {floor : Floor} {by : ConnId} {at : ℕ} {desk : DeskShown} {shown : Transcript}
    (is : IsFound board workers tray last floor by at desk shown) where
  -- as the caller is changed, and the tray
  pub changed : (worker : AtWork) (tray' : List (Option NoteShown))
      → floor_of (set workers at worker) tray' last ≡ record (with_worker by worker floor) { tray = tray' }
  changed worker tray' = grind arith

  -- and nothing else
  pub changed_only : (worker : AtWork) → floor_of (set workers at worker) tray last ≡ with_worker by worker floor
  changed_only worker = grind (arith, changed)

  -- it is at its own desk still
  pub changed_fits : (worker : AtWork) (tray' : List (Option NoteShown)) → IsDeskOf board worker.desk
      → worker.desk.owner ≡ desk.owner → IsTrayOf board tray'
      → IsFloorOf board (floor_of (set workers at worker) tray' last)
  changed_fits worker tray' right own of_board = subst (IsFloorOf board) (sym (changed worker tray'))
      (tray_fits (worker_fits is.of_board by worker right (own ∙ is.own)) tray' of_board)

  -- the caller changed, and has acted on every structure
  pub changed_all : (worker : AtWork) (last' : List (Option ConnId)) → last' ≡ replicate (length last) (Some by)
      → floor_of (set workers at worker) tray last'
      ≡ record (with_worker by worker floor) { last = replicate (length floor.last) (Some by) }
  changed_all worker last' last_is = grind (arith, changed_only)

  pub changed_all_fits : (worker : AtWork) (last' : List (Option ConnId))
      → last' ≡ replicate (length last) (Some by) → by.0 ≤ board.callers → IsDeskOf board worker.desk
      → worker.desk.owner ≡ desk.owner → IsFloorOf board (floor_of (set workers at worker) tray last')
  changed_all_fits worker last' last_is within right own = subst (IsFloorOf board) (sym (changed_all
      worker last' last_is)) (everywhere_fits (worker_fits is.of_board by worker right (own ∙ is.own)) by within)

-- ---- two elements of a list that was cut in two between them

module _ {X : Type 0} (xs low : List X) (d x y x' : X) where
  -- the one that changes stands before the other
  pub before_cut : (high : List X) (y' : X) (to from : ℕ) → xs ≡ low ++ high → length low ≡ from → from < length xs
      → to < from → x ≡ get_or low to x → y ≡ get_or high 0 y → y' ≡ y
      → (set low to x' ++ set high 0 y' ≡ set xs to x') × (get_or xs to d ≡ x) × (get_or xs from d ≡ y)
  before_cut [] y' to from whole len inside lt x_is y_is kept =
      absurd (omega (arith, ap length whole, length-append low []))
  before_cut (h ∷ hs) y' to from whole len inside lt x_is y_is kept =
      grind (arith, set-append_left, get_or_append_left, get_or_read, get_or-append_seam)

  -- it stands behind the other
  pub behind_cut : (high : List X) (y' : X) (to from : ℕ) → xs ≡ low ++ high → length low ≡ to → to < length xs
      → from < to → x ≡ get_or high 0 x → y ≡ get_or low from y → y' ≡ y
      → (set low from y' ++ set high 0 x' ≡ set xs to x') × (get_or xs to d ≡ x) × (get_or xs from d ≡ y)
  behind_cut [] y' to from whole len inside lt x_is y_is kept =
      absurd (omega (arith, ap length whole, length-append low []))
  behind_cut (h ∷ hs) y' to from whole len inside lt x_is y_is kept =
      grind (arith, set-get_or, set-append_seam, get_or-append_seam, get_or_append_left, get_or_read)

-- ---- one caller hears of another

-- what one caller knows of a structure, told to another
abbrev told : StrNo → AtWork → AtWork → AtWork
told on from worker = record worker
    { desk = with_pass on (with_note (note_of (pass_at from.desk on)) (pass_at worker.desk on)) worker.desk }

module _ {L : Type 0} {board : BoardShown L} (low high : List AtWork) (by : ConnId) (on : StrNo)
    {workers : List AtWork} {tray : List (Option NoteShown)} {last : List (Option ConnId)} {floor : Floor}
    {other : ConnId} {o : Option ConnId} {n to from : ℕ} {x y r s : AtWork} {desk desk' : DeskShown}
    (parts : floor_of workers tray last ≡ floor)
    (fits : IsFloorOf board floor) (place : on.0 < length board.cells) (n_is : n ≡ on.0)
    (o_found : o ≡ get_or last n o) (o_is : o ≡ Some other) (within : by.0 ≤ board.callers) (to_is : to ≡ by.0)
    (from_is : from ≡ other.0) (whole : workers ≡ low ++ high) (x_is : x ≡ r) (y_is : y ≡ s) (tells : desk ≡ with_pass
    on (with_note (note_of (pass_at y.desk on)) (pass_at x.desk on)) x.desk) (kept : desk' ≡ y.desk) where
  read_last : get_or floor.last on.0 None ≡ Some other
  read_last = grind (arith, get_or_read)

  count_is : length workers ≡ board.callers + 1
  count_is = ap (λ f. length f.workers) parts ∙ fits.workers.callers

  other_within : other.0 ≤ board.callers
  other_within = actor_is fits on.0 other place read_last

  as_found : {X : Type 0} (xs : List X) (i : ℕ) (one other : X) → one ≡ other → other ≡ get_or xs i other
      → one ≡ get_or xs i one
  as_found xs i one other same found = same ∙ found ∙ ap (λ d. get_or xs i d) (sym same)

  told_is : (let it : AtWork = record x { desk = desk } in it) ≡ told on y x
  told_is = ap (λ d. (let it : AtWork = record x { desk = d } in it)) tells

  kept_is : (let it : AtWork = record y { desk = desk' } in it) ≡ y
  kept_is = ap (λ d. (let it : AtWork = record y { desk = d } in it)) kept

  -- the one who acted on the structure last told what it knows
  hears : (workers' : List AtWork) → workers' ≡ set workers to (told on y x) → get_or workers to no_worker ≡ x
      → get_or workers from no_worker ≡ y → other.0 ≢ by.0
      → floor_of workers' tray last ≡ with_worker by (heard_from_last floor by (worker_of floor by) on) floor
  hears workers' changes x_here y_here apart = grind (arith, read_last, eqb-true)

  -- the one who hears stands before the one who knows
  pub hears_before : {workers' : List AtWork} → length low ≡ from → to < from → r ≡ get_or low to r → s ≡ get_or
      high 0 s → workers' ≡ set low to (record x { desk = desk }) ++ set high 0 (record y { desk = desk' })
      → floor_of workers' tray last ≡ with_worker by (heard_from_last floor by (worker_of floor by) on) floor
  hears_before len lt r_found s_found changes =
      grind (arith, count_is, other_within, before_cut, as_found, kept_is, hears, told_is)

  -- it stands behind it
  pub hears_behind : {workers' : List AtWork} → length low ≡ to → from < to → r ≡ get_or high 0 r → s ≡ get_or
      low from s → workers' ≡ set low from (record y { desk = desk' }) ++ set high 0 (record x { desk = desk })
      → floor_of workers' tray last ≡ with_worker by (heard_from_last floor by (worker_of floor by) on) floor
  hears_behind len lt r_found s_found changes = grind (arith, count_is, behind_cut, as_found, kept_is, hears, told_is)

-- the callers at a board where nobody has done anything
pub new_floor_is : {L : Type 0} (board : BoardShown L) (workers : List AtWork) (tray : List (Option NoteShown))
    (last : List (Option ConnId)) (n : ℕ) → workers ≡ crew_of board → tray ≡ no_notes board → last ≡ replicate n None
    → n ≡ length board.cells → floor_of workers tray last ≡ new_floor board
new_floor_is board workers tray last n workers_are tray_is last_is n_is = grind arith
