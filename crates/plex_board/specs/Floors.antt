-- A script's work on one thread: its callers at work at one board, a line after another, and then the closings.
-- Before a caller's call or test it is told what the caller before it has seen of the structure.
use Rattle.std.specs.Prelude.{◌≡◌, ◌+◌, ◌*◌, ◌==◌, nat_lt, Bool, true, false, if◌then◌else◌, MatchBool, List, [], ◌∷◌, length, map, fold, replicate, slice_index_or, slice_set, Option, None, Some}
use Rattle.std.specs.List.{range_with_len}
use Rattle.plex_script.specs.CfTypes.declared.forms.StrForm.{StrForm}
use Rattle.plex_script.specs.CfTypes.declared.numbers.ConnId.{ConnId}
use Rattle.plex_script.specs.CfTypes.declared.numbers.StrNo.{StrNo}
use Rattle.plex_script.specs.declared.scripts.Act.{Act}
use Rattle.plex_script.specs.declared.scripts.Act.TheVariants as act
use Rattle.plex_script.specs.declared.scripts.Line.{Line}
use Rattle.plex_script.specs.declared.transcripts.Shown.TheVariants as shown
use Rattle.plex_board.specs.Passes.{NoteShown, note_of}
use Rattle.plex_board.specs.Cells.{CellShown}
use Rattle.plex_board.specs.Notes.{with_note, with_any_note}
use Rattle.plex_board.specs.Desks.{pass_at, with_pass}
use Rattle.plex_board.specs.Boards.{BoardShown, cell_on, new_desk, no_notes, note_in}
use Rattle.plex_board.specs.Turns.{AtWork, Posts, Turns, is_done_as, with_item}
use Rattle.plex_board.specs.Callers.{DepartsEach, no_items}

-- the callers at work, from the operator on; the tray; and for each structure who acted on it last, if anybody did
pub record Floor : Type 0 where
  pub workers : List AtWork
  pub tray : List (Option NoteShown)
  pub last : List (Option ConnId)

abbrev pub no_worker : AtWork
no_worker = record { desk = record { owner = record { 0 = 0 }; passes = [] }; shown = no_items }

abbrev pub worker_of : Floor → ConnId → AtWork
worker_of floor by = slice_index_or floor.workers by.0 no_worker

abbrev pub with_worker : ConnId → AtWork → Floor → Floor
with_worker by worker floor = record floor { workers = slice_set floor.workers by.0 worker }

-- nobody has done anything
abbrev pub new_floor : {L : Type 0} → BoardShown L → Floor
new_floor board = record {
  workers = map (λ owner. (let worker : AtWork = record { desk = new_desk board owner; shown = no_items } in worker))
      (range_with_len 0 (board.callers + 1));
  tray = no_notes board;
  last = replicate (length board.cells) None;
}

-- ---- hearings

abbrev pub told_by : Floor → StrNo → ConnId → AtWork → AtWork
told_by floor on other worker =
    record worker {
      desk = with_pass on (with_note (note_of (pass_at (worker_of floor other).desk on))
          (pass_at worker.desk on)) worker.desk;
    }

-- the worker is told what the one who acted on the structure last knows of it; nothing where that is itself, or was
-- nobody
abbrev pub heard_from : Floor → ConnId → StrNo → Option ConnId → AtWork → AtWork
heard_from floor by on None worker = worker
heard_from floor by on (Some other) worker = if other.0 == by.0 then worker else told_by floor on other worker

abbrev pub heard_from_last : Floor → ConnId → AtWork → StrNo → AtWork
heard_from_last floor by worker on = heard_from floor by on (slice_index_or floor.last on.0 None) worker

-- the same at every structure
abbrev pub heard_all : {L : Type 0} → BoardShown L → Floor → ConnId → AtWork
heard_all board floor by =
    fold (λ worker place. heard_from_last floor by worker (record { 0 = place })) (worker_of floor by)
    (range_with_len 0 (length board.cells))

-- ---- lines

-- a call, an event round, and a test within the vector: the caller hears before it, and has then acted on the
-- structure
abbrev pub is_counted : StrForm → Act → Bool
is_counted form (act.Call asked) = true
is_counted form act.Events = true
is_counted form (act.Test index) = nat_lt index form.vector
is_counted form (act.TestWord word) = nat_lt (32 * word) form.vector
is_counted form act.Post = false
is_counted form act.Take = false

-- the structure's note in the tray is told to the caller, and the number of a call that it has now seen complete is
-- shown
abbrev pub worker_after_take : StrNo → Option NoteShown → AtWork → AtWork
worker_after_take on note worker =
    let pass = with_any_note note (pass_at worker.desk on) in
    record { desk = with_pass on pass worker.desk; shown = with_item (shown.Took on pass.sure) worker.shown }

-- the worker as it begins a line, and who has acted last once the line is done
abbrev pub worker_ready : StrForm → Line → Floor → AtWork
worker_ready form line floor =
    if is_counted form line.act then heard_from_last floor line.by (worker_of floor line.by) line.on
    else worker_of floor
    line.by

abbrev pub last_after : StrForm → Line → Floor → List (Option ConnId)
last_after form line floor =
    if is_counted form line.act then slice_set floor.last line.on.0 (Some line.by) else floor.last

abbrev pub PlaysAct : {L : Type 0} → CellShown L → Line → Act → Floor → Floor → Type 0
PlaysAct cell line act.Post before after =
    (worker : AtWork) × Posts line.on (worker_of before line.by) worker
    × (after ≡ record (with_worker line.by worker before) {
      tray = slice_set before.tray line.on.0 (Some (note_of (pass_at (worker_of before line.by).desk line.on)));
    })
PlaysAct cell line act.Take before after =
    after ≡ with_worker line.by (worker_after_take line.on (note_in before.tray line.on)
    (worker_of before line.by)) before
PlaysAct cell line some before after =
    (worker : AtWork) × Turns cell.limit cell.form line (worker_ready cell.form line before) worker
    × (after ≡ record (with_worker line.by worker before) { last = last_after cell.form line before })

-- the caller's work goes on
abbrev pub is_working : Floor → ConnId → Bool
is_working floor by = is_done_as (worker_of floor by).shown.end

-- a line, unless its caller's work has ended
abbrev pub PlaysLine : {L : Type 0} → BoardShown L → Line → Floor → Floor → Type 0
PlaysLine {L} board line before after =
    (cell : CellShown L) × (cell_on board line.on ≡ Some cell)
    × MatchBool (is_working before line.by) (PlaysAct cell line line.act before after) (after ≡ before)

abbrev pub PlaysLines : {L : Type 0} → BoardShown L → List Line → Floor → Floor → Type 0
PlaysLines board [] before after = after ≡ before
PlaysLines board (line ∷ lines) before after =
    (between : Floor) × PlaysLine board line before between × PlaysLines board lines between after

-- ---- closings

-- a connector whose work goes on hears at every structure, and departs from those at which it is active
abbrev pub ClosesOne : {L : Type 0} → BoardShown L → ConnId → Floor → Floor → Type 0
ClosesOne board by before after =
    MatchBool (is_working before by)
    ((worker : AtWork) × DepartsEach 0 board.cells (heard_all board before by) worker
    × (after ≡ record (with_worker by worker before) { last = replicate (length board.cells) (Some by) }))
    (after ≡ before)

abbrev pub ClosesAll : {L : Type 0} → BoardShown L → List ConnId → Floor → Floor → Type 0
ClosesAll board [] before after = after ≡ before
ClosesAll board (conn ∷ conns) before after =
    (between : Floor) × ClosesOne board conn before between × ClosesAll board conns between after

-- ---- the whole

-- the lines of a script in their order, and then the closings of its connectors in number order
pub record Plays {L : Type 0} (board : BoardShown L) (lines : List Line) (conns : List ConnId) (after : Floor) : Type
    0 where
  pub between : Floor
  pub during : PlaysLines board lines (new_floor board) between
  pub closing : ClosesAll board conns between after
