-- The callers at work at a board, and what has been done at its structures.
use Rattle.plex_agent.proofs.Imports.{◌≡◌, ◌≢◌, ℕ, ◌+◌, ◌≤◌, ◌<◌, ◌++◌, length, map, set, Option, None, Some, arith, length-set, slice_index_or, get_or-set_same, get_or-set_other, set-set, Kind, Step, AnyAsk, AgentEnd, Transcript, most_asks, all_steps_made, PassShown, DeskShown, pass_at, with_pass, no_pass, note_in, AtWork, Asks, EndsAt, Halts, call_item, Floor, worker_of, Run}
use Rattle.plex_agent.proofs.Spots.{conn, str, same_number, other_number, Spot}
use Rattle.plex_agent.proofs.Stages.{Stage, IsStage, State, Shows, Goes}
use Rattle.plex_agent.proofs.ExactMoves.{SaysLess}
use Rattle.plex_agent.proofs.ExactCalls.{IsMoved, IsHalted, IsEnded, StepsGo, steps_go}

-- ---- desks

pub pass_same : (desk : DeskShown) (x : ℕ) (pass : PassShown) → x < length desk.passes
    → pass_at (with_pass (str x) pass desk) (str x) ≡ pass
pass_same desk x pass within = get_or-set_same desk.passes x pass no_pass within

pub pass_other : (desk : DeskShown) (on x : ℕ) (pass : PassShown) → x ≢ on
    → pass_at (with_pass (str on) pass desk) (str x) ≡ pass_at desk (str x)
pass_other desk on x pass apart = get_or-set_other desk.passes on x pass no_pass apart

pub pass_again : (desk : DeskShown) (x : ℕ) (pass pass' : PassShown)
    → with_pass (str x) pass' (with_pass (str x) pass desk) ≡ with_pass (str x) pass' desk
pass_again desk x pass pass' = grind (arith, set-set)

-- ---- a worker

-- the worker's passes and transcript are the caller's
pub record IsWorker (cells by : ℕ) (worker : AtWork) (state : State) : Type 0 where
  pub size : length worker.desk.passes ≡ cells
  pub passes : (x : ℕ) → x < cells → pass_at worker.desk (str x) ≡ (state.spots x).passes by
  pub shown : worker.shown ≡ state.shown by

-- nothing happened to the other callers
pub record OthersSame (by : ℕ) (before after : State) : Type 0 where
  pub passes : (x c : ℕ) → c ≢ by → (after.spots x).passes c ≡ (before.spots x).passes c
  pub shown : (c : ℕ) → c ≢ by → after.shown c ≡ before.shown c

-- nor to the notes
abbrev pub NotesSame : State → State → Type 0
NotesSame before after = (x : ℕ) → (after.spots x).note ≡ (before.spots x).note

abbrev pub LastsSame : State → State → Type 0
LastsSame before after = (x : ℕ) → (after.spots x).last ≡ (before.spots x).last

pub others_then : (by : ℕ) (first second third : State) → OthersSame by first second → OthersSame by second third
    → OthersSame by first third
others_then by first second third one two = grind arith

pub by_place : (P : ℕ → Type 0) (on : ℕ) → P on → ((x : ℕ) → x ≢ on → P x) → (x : ℕ) → P x
by_place P on here rest x = grind (arith, same_number, other_number)

module _ (on by : ℕ) (pass : PassShown) (transcript : Transcript) (before after : State)
    (moved : IsMoved on by pass transcript before after) where
  pub moved_others : OthersSame by before after
  moved_others = grind (arith, by_place, Spot)

  pub moved_notes : NotesSame before after
  moved_notes = grind (arith, by_place, Spot)

  pub moved_lasts : LastsSame before after
  moved_lasts = grind (arith, by_place, Spot)

  -- the worker whose pass and transcript became these
  pub moved_worker : (cells : ℕ) (worker worker' : AtWork) → on < cells → IsWorker cells by worker before
      → worker'.desk ≡ with_pass (str on) pass worker.desk → worker'.shown ≡ transcript
      → IsWorker cells by worker' after
  moved_worker cells worker worker' within is desk shown =
      grind (arith, length-set, by_place, str, pass_same, pass_other, Spot)

-- ---- the calls of a line

-- how the calls end, by the pass that they leave
pub record EndsSo (limit : ℕ) (kind : Kind) (line : Option AnyAsk)
    (on : ℕ) (last : Step) (pass : PassShown) (desk after : DeskShown) (end : AgentEnd) : Type 0 where
  pub ends : IsEnded limit kind line on last pass (pass_at after (str on)) end
  pub desk_is : after ≡ with_pass (str on) (pass_at after (str on)) desk

halts_so : (kind : Kind) (line : Option AnyAsk) (on : ℕ) (last : Step) (pass : PassShown) (desk after : DeskShown)
    → on < length desk.passes → Halts kind line (str on) last (with_pass (str on) pass desk) after → IsHalted
    kind line last pass (pass_at after (str on)) × (after ≡ with_pass (str on) (pass_at after (str on)) desk)
halts_so kind line on last pass desk after within halts = grind (arith, str, pass_same, pass_again)

ends_so : (limit : ℕ) (kind : Kind) (line : Option AnyAsk) (on : ℕ) (last : Step) (pass : PassShown)
    (desk after : DeskShown) (end : AgentEnd) → on < length desk.passes → EndsAt limit kind
    line (str on) last (with_pass (str on) pass desk) after end → EndsSo limit kind line on last pass desk after end
ends_so limit kind line on last pass desk after AgentEnd.Done within ends = grind (arith, str, pass_same)
ends_so limit kind line on last pass desk after (AgentEnd.JournalFull place) within ends =
    let halts = halts_so kind line on last pass desk after within ends.1 in
    record { ends = (ends.0, halts.0, ends.2); desk_is = halts.1 }
ends_so limit kind line on last pass desk after (AgentEnd.NoMemory cause) within ends =
    let halts = halts_so kind line on last pass desk after within ends.0 in
    record { ends = halts.0; desk_is = halts.1 }

-- where the calls lead
pub record WorkerGoes (stage : Stage) (shows shows' : Shows) (by : ℕ) (worker : AtWork) (before : State)
    (goes : Run → Run) : Type 1 where
  pub after : State
  pub is_worker : IsWorker stage.cells by worker after
  pub others : OthersSame by before after
  pub notes : NotesSame before after
  pub lasts : LastsSame before after
  pub goes_on : Goes stage shows shows' before after goes

pub asks_go : (stage : Stage) (is : IsStage stage) (shows shows' : Shows) (line : Option AnyAsk)
    (on by : ℕ) (first : Step) (worker worker' : AtWork) (before : State) → on < stage.cells
    → by ≤ stage.callers → first ≢ Step.Rest → SaysLess shows shows' on by → IsWorker stage.cells by worker before
    → (before.shown by).end ≡ AgentEnd.Done → (before.spots on).last ≡ Some (conn by)
    → Asks stage.limit (stage.form on).kind line (str on) first worker worker' → WorkerGoes stage shows
    shows' by worker' before (all_steps_made stage.limit stage.told (stage.form on) line (conn by) (str on) first)
asks_go stage is shows shows' line on by first worker worker' before within caller goes says at works last asks =
    let kind = (stage.form on).kind in
    let ends = ends_so _ _ _ _ _ _ _ _ _ (omega (arith, at.size)) asks.ends in
    let pass' = pass_at worker'.desk (str on) in
    let transcript : Transcript =
    record { items = (before.shown by).items ++ map (call_item (str on)) asks.tolds; end = worker'.shown.end } in
    let go : StepsGo stage is line on by within caller shows shows' (most_asks first) first pass' transcript before =
    grind (arith, steps_go) in
    let shown_is : worker'.shown ≡ transcript = grind (arith, str) in
    record {
      after = go.after;
      is_worker = moved_worker on by pass' transcript before go.after go.is_moved stage.cells worker worker' within at
          ends.desk_is shown_is;
      others = moved_others on by pass' transcript before go.after go.is_moved;
      notes = moved_notes on by pass' transcript before go.after go.is_moved;
      lasts = moved_lasts on by pass' transcript before go.after go.is_moved;
      goes_on = go.goes;
    }

-- ---- the floor

pub record IsFloor (stage : Stage) (floor : Floor) (state : State) : Type 0 where
  pub workers : length floor.workers ≡ stage.callers + 1
  pub tray : length floor.tray ≡ stage.cells
  pub lasts : length floor.last ≡ stage.cells
  pub worker : (c : ℕ) → c ≤ stage.callers → IsWorker stage.cells c (worker_of floor (conn c)) state
  pub note : (x : ℕ) → x < stage.cells → note_in floor.tray (str x) ≡ (state.spots x).note
  pub last : (x : ℕ) → x < stage.cells → slice_index_or floor.last x None ≡ (state.spots x).last

-- one worker's turn
pub floor_after : (stage : Stage) (by : ℕ) (worker : AtWork) (floor floor' : Floor) (before after : State) → by
    ≤ stage.callers → IsFloor stage floor before → floor'.workers ≡ set floor.workers by worker → length floor'.tray
    ≡ stage.cells → length floor'.last ≡ stage.cells → ((x : ℕ) → x < stage.cells → note_in floor'.tray (str x)
    ≡ (after.spots x).note) → ((x : ℕ) → x < stage.cells → slice_index_or floor'.last x None ≡ (after.spots x).last)
    → IsWorker stage.cells by worker after → OthersSame by before after → IsFloor stage floor' after
floor_after stage by worker floor floor' before after caller is workers tray lasts note last mine others =
    grind (arith, length-set, by_place, conn, get_or-set_same, get_or-set_other)
