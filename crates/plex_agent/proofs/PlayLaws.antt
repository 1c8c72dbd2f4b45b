-- What the steps of a line and of a closing come to.
use Rattle.plex_agent.proofs.Imports.{◌≡◌, ℕ, suc, ◌+◌, ◌-◌, ◌<◌, ◌≤◌, Bool, true, false, if◌then◌else◌, List, [], ◌∷◌, ◌++◌, length, fold, drop, replicate, Option, Some, IfSome, Result, Ok, Err, OnOk, get_or, set, slice_set, refl, sym, ◌∙◌, ap, subst, arith, range_with_len, drop-cons, add-one, eqb-false, eqb-true, get_or-set_same, get_or-set_other, slice_get_within, StrForm, ConnId, StrNo, Act, Line, Shown, Transcript, note_of, with_any_note, DeskShown, pass_at, with_pass, CellShown, BoardShown, cell_on, note_in, AtWork, Turns, IsLineFor, Floor, NoteShown, IsFloorOf, no_worker, worker_of, with_worker, heard_from_last, heard_all, is_counted, is_working, PlaysAct, PlaysLine, PlaysLines, ClosesOne, ClosesAll, desk-length, pass_at-with_pass_same, IsTurn, TakesTurn, PlaysActOn, conns_from, set-set}
use Rattle.plex_board.specs.Callers.{DepartsEach, Closes}
use Rattle.plex_agent.proofs.FloorLaws.{floor_of, at_desk, IsFound, changed, changed_only, changed_all}
use Rattle.plex_agent.proofs.CellLaws.{some_is}

-- a fact of an answer that came
pub on_ok : {T E : Type 0} {P Q : Type 0} (r : Result T E) → (P → Q) → OnOk r P → OnOk r Q
on_ok (Ok v) f p = f p
on_ok (Err e) f p = p

-- of a caller's work the last that is put stands
put_twice : (floor : Floor) (by : ConnId) (first second : AtWork)
    → with_worker by second (with_worker by first floor) ≡ with_worker by second floor
put_twice floor by first second = grind (arith, set-set)

worker_put : (floor : Floor) (by : ConnId) (worker : AtWork) → by.0 < length floor.workers
    → worker_of (with_worker by worker floor) by ≡ worker
worker_put floor by worker inside = get_or-set_same floor.workers by.0 worker no_worker inside

-- ---- lines

-- what a caller does in its turn, where its line is counted or not
turn_played : {L : Type 0} (cell : CellShown L) (line : Line) (counted : Bool) (before after : Floor)
    (worker : AtWork) → IsTurn line.act → counted ≡ is_counted cell.form line.act → Turns cell.limit cell.form line
    (if counted then heard_from_last before line.by (worker_of before line.by) line.on else worker_of before line.by)
    worker → after ≡ record (with_worker line.by worker before) {
      last = if counted then slice_set before.last line.on.0 (Some line.by) else before.last;
    } → PlaysAct cell line line.act before after
turn_played {L} cell line counted before after worker is_turn counted_is turned after_is = grind arith

module _ {L : Type 0} (board : BoardShown L) (line : Line) {bits : ℕ} {counted : Bool} (bits_are : IfSome
    (cell_on board line.on) (λ cell. bits ≡ cell.form.vector)) (counted_is : (form : StrForm)
    → form.vector ≡ bits → counted ≡ is_counted form line.act) (is_turn : IsTurn line.act) where
  is_counted_at : (cell : CellShown L) → cell_on board line.on ≡ Some cell → counted ≡ is_counted cell.form line.act
  is_counted_at cell there = grind (arith, some_is)

  -- a line that isn't counted is the caller's turn alone
  pub plays_uncounted : {before after : Floor} → counted ≡ false → TakesTurn board line before after
      → PlaysActOn board line line.act before after
  plays_uncounted isnt took = record {
    cell = took.cell;
    there = took.there;
    played = turn_played took.cell line false _ _ took.worker is_turn
        (sym isnt ∙ is_counted_at took.cell took.there) took.turned took.others;
  }

  -- one that is counted comes behind what the caller hears, and the caller has then acted last
  pub plays_counted : {before told worked after : Floor} → counted ≡ true → line.by.0 < length before.workers
      → told ≡ with_worker line.by (heard_from_last before line.by (worker_of before line.by) line.on) before
      → TakesTurn board line told worked → after ≡ record worked
      { last = slice_set worked.last line.on.0 (Some line.by) } → PlaysActOn board line line.act before after
  plays_counted {before} is inside told_is took after_is =
      let heard = heard_from_last before line.by (worker_of before line.by) line.on in
      let worked_is = took.others
      ∙ ap (λ f. with_worker line.by took.worker f) told_is ∙ put_twice before line.by heard took.worker in
      record {
        cell = took.cell;
        there = took.there;
        played = grind (arith, turn_played, is_counted_at, worker_put);
      }

module _ {L : Type 0} {board : BoardShown L} {line : Line} {workers : List AtWork} {tray : List (Option NoteShown)}
    {last : List (Option ConnId)} {before : Floor} {at : ℕ} {desk : DeskShown} {seen : Transcript}
    (right : IsLineFor board line) (is : IsFound board workers tray last before line.by at desk seen) where
  -- the caller of a line took its turn
  pub takes_turn : (worker : AtWork) → IfSome (cell_on board line.on) (λ cell. Turns cell.limit cell.form line
      (at_desk desk seen) worker) → TakesTurn board line before (floor_of (set workers at worker) tray last)
  takes_turn worker turned = record {
    cell = right.cell;
    there = right.there;
    worker = worker;
    turned = subst (λ w. Turns right.cell.limit right.cell.form line w worker) (sym is.is)
        (some_is _ _ _ right.there turned);
    others = changed_only is worker;
  }

  -- it posted a note
  pub posts : {desk' : DeskShown} {sure : ℕ} {tray' : List (Option NoteShown)} {items : List Shown} → desk' ≡ desk
      → sure ≡ (pass_at desk line.on).sure → sure ≤ (pass_at desk line.on).known
      → tray' ≡ slice_set tray line.on.0 (Some (note_of (pass_at desk line.on)))
      → items ≡ seen.items ++ Shown.Posted line.on sure ∷ [] → PlaysActOn board line Act.Post before
      (floor_of (set workers at (at_desk desk' (record seen { items = items }))) tray' last)
  posts {desk'} {sure} {tray'} {items} desk_is sure_is known tray_is items_are =
      let worker : AtWork = at_desk desk' (record seen { items = items }) in
      record {
        cell = right.cell;
        there = right.there;
        played = (worker, grind arith, grind (arith, changed));
      }

  -- it was told the note in the tray
  pub takes : {desk' : DeskShown} {sure : ℕ} {tray' : List (Option NoteShown)} {items : List Shown}
      → desk' ≡ with_pass line.on (with_any_note (note_in tray line.on) (pass_at desk line.on)) desk → sure ≡ (pass_at
      desk' line.on).sure → tray' ≡ tray → items ≡ seen.items ++ Shown.Took line.on sure ∷ [] → PlaysActOn board
      line Act.Take before (floor_of (set workers at (at_desk desk' (record seen { items = items }))) tray' last)
  takes desk_is sure_is tray_is items_are =
      let cells = desk-length board desk is.fits in
      let within = slice_get_within board.cells line.on.0 right.cell right.there in
      let inside : line.on.0 < length desk.passes = omega arith in
      record {
        cell = right.cell;
        there = right.there;
        played = grind (arith, changed_only, pass_at-with_pass_same);
      }

-- a line that was played, since its caller's work goes on
pub plays_line : {L : Type 0} (board : BoardShown L) (line : Line) (does : Act) (before after : Floor)
    → is_working before line.by ≡ true → line.act ≡ does → PlaysActOn board line does before after
    → PlaysLine board line before after
plays_line board line does before after works act_is acted = (
  acted.cell,
  acted.there,
  rw works (subst (λ a. PlaysAct acted.cell line a before after) (sym act_is) acted.played),
)

-- a line that wasn't, since its caller's work has ended
pub plays_nothing : {L : Type 0} (board : BoardShown L) (line : Line) (floor : Floor)
    → is_working floor line.by ≡ false → IsLineFor board line → PlaysLine board line floor floor
plays_nothing board line floor ended right = (right.cell, right.there, rw ended refl)

-- ---- hearings

-- the numbers from one on
range_more : (k n : ℕ) → k < n → range_with_len k (n - k) ≡ k ∷ range_with_len (k + 1) (n - (k + 1))
range_more k n below = let e : n - k ≡ suc (n - (k + 1)) = omega arith in ap (range_with_len k) e

-- what the others know doesn't change as a caller hears of them
same_hearing : (floor : Floor) (by : ConnId) (other : AtWork) (worker : AtWork) (on : StrNo)
    → heard_from_last (with_worker by other floor) by worker on ≡ heard_from_last floor by worker on
same_hearing floor by changed worker on = grind (arith, eqb-false, get_or-set_other)

-- a caller heard at the structures before this one, and nothing else was done
pub record HearsBefore {L : Type 0} (board : BoardShown L) (start : Floor) (by : ConnId) (place : ℕ) (now : Floor)
    : Type 0 where
  pub fits : IsFloorOf board now
  pub mine : now ≡ with_worker by (worker_of now by) start
  pub rest : fold (λ worker place. heard_from_last start by worker (record { 0 = place })) (worker_of now by)
      (range_with_len place (length board.cells - place)) ≡ heard_all board start by

module _ {L : Type 0} {board : BoardShown L} {start now : Floor} {by : ConnId} {place : ℕ}
    (hears : HearsBefore board start by place now) where
  -- one structure more at which the caller heard
  pub hears_more : {next : Floor} → IsFloorOf board next → place < length board.cells → by.0 < length start.workers
      → next ≡ with_worker by (heard_from_last now by (worker_of now by) (record { 0 = place })) now
      → HearsBefore board start by (place + 1) next
  hears_more fits below inside next_is = grind (arith, same_hearing, put_twice, worker_put, range_more)

  -- no structure is left at which the caller didn't hear
  pub heard_everywhere : length board.cells ≤ place → now ≡ with_worker by (heard_all board start by) start
  heard_everywhere over = grind arith

-- ---- closings

-- a connector's closing is its departures
departs : {L : Type 0} (board : BoardShown L) (before after : AtWork) → 1 ≤ before.desk.owner.0
    → Closes board before after → DepartsEach 0 board.cells before after
departs board before after connector closed = grind (arith, eqb-true)

pub closes_one : {L : Type 0} {board : BoardShown L} {by : ConnId} (before : Floor) {told : Floor}
    {workers : List AtWork} {tray : List (Option NoteShown)} {last last' : List (Option ConnId)} {at : ℕ}
    {desk : DeskShown} {seen : Transcript} (worker : AtWork) → is_working before by ≡ true
    → by.0 < length before.workers → length before.last ≡ length board.cells
    → told ≡ with_worker by (heard_all board before by) before → IsFound board workers tray last told by at desk seen
    → 1 ≤ by.0 → Closes board (at_desk desk seen) worker → last' ≡ replicate (length last) (Some by)
    → ClosesOne board by before (floor_of (set workers at worker) tray last')
closes_one before worker works inside places told_is is connector closed last_is =
    grind (arith, worker_put, departs, put_twice, changed_all)

-- a closing that isn't done, since the connector's work has ended
pub closes_nothing : {L : Type 0} (board : BoardShown L) (by : ConnId) (floor : Floor) → is_working floor by ≡ false
    → ClosesOne board by floor floor
closes_nothing board by floor ended = grind arith

-- ---- one after another

-- one line more
pub lines_more : {L : Type 0} (board : BoardShown L) (lines : List Line) (line : Line) (i : ℕ)
    (start now next : Floor) → i < length lines → line ≡ get_or lines i line → ((after : Floor)
    → PlaysLines board (drop i lines) now after → PlaysLines board lines start after) → PlaysLine board line now next
    → (after : Floor) → PlaysLines board (drop (i + 1) lines) next after → PlaysLines board lines start after
lines_more board lines line i start now next below line_is rest played after more =
    let front : drop i lines ≡ line ∷ drop (i + 1) lines =
    rw add-one (drop-cons lines i line below ∙ ap (λ it. it ∷ drop (suc i) lines) (sym line_is)) in
    rest after (subst (λ left. PlaysLines board left now after) (sym front) (next, played, more))

-- one closing more
pub closings_more : {L : Type 0} (board : BoardShown L) (k n : ℕ) (Then : Floor → Type 0) (now next : Floor) → k < n
    → ((after : Floor) → ClosesAll board (conns_from (k + 1) (n - k)) now after → Then after)
    → ClosesOne board (record { 0 = k + 1 }) now next
    → (after : Floor) → ClosesAll board (conns_from (k + 1 + 1) (n - (k + 1))) next after → Then after
closings_more board k n Then now next below rest closed after more =
    let left : n - k ≡ suc (n - (k + 1)) = omega arith in
    rest after (subst (λ m. ClosesAll board (conns_from (k + 1) m) now after) (sym left) (next, closed, more))
