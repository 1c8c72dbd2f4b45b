-- What has been done at all structures, and the steps of it: what each keeps, what it says of what was done before,
-- and that the run by the machine alone goes with it.
use Rattle.plex_agent.proofs.Imports.{arith, ◌≡◌, ◌≢◌, ℕ, ◌+◌, ◌≤◌, ◌<◌, length, set, slice_get, Some, StrForm, CfId, Telling, cases_eq, AnyHistory, Transcript, IsAnyLegal, AreAnyAsTold, IsAnyPoint, any_numbers, AreMadeBelow, Run, AgentEnd, want}
use Rattle.plex_agent.proofs.Spots.{put, put_all, put_same, put_other, Spot, IsKnown}
use Rattle.plex_agent.proofs.Fits.{put_back, FitsAt}
use Rattle.plex_agent.proofs.Agreements.{AgreesAt}

-- ---- what stays

-- the number of structures, the greatest number of a caller, the length of a journal; what each structure's links tell,
-- its form, and its history at the end
pub record Stage : Type 0 where
  pub cells : ℕ
  pub callers : ℕ
  pub limit : ℕ
  pub told : ℕ → CfId → Telling
  pub form : ℕ → StrForm
  pub entries : ℕ → AnyHistory

pub record IsStage (stage : Stage) : Type 0 where
  pub legal : (x : ℕ) → x < stage.cells → IsAnyLegal (stage.form x) (stage.entries x)
  pub as_told : (x : ℕ) → x < stage.cells → AreAnyAsTold (stage.form x) (stage.told x) (stage.entries x)
  pub made : (x : ℕ) → x < stage.cells → AreMadeBelow stage.limit 0 (any_numbers (stage.entries x))

-- ---- what has been done

pub record State : Type 0 where
  pub spots : ℕ → Spot
  pub shown : ℕ → Transcript

abbrev pub Known : Stage → State → Type 0
Known stage state = (x : ℕ) → x < stage.cells → IsKnown stage.callers (state.spots x)

-- what a caller that stopped knows stays as it is, and is a point of the history
pub record Fits (stage : Stage) (state : State) : Type 0 where
  pub at : (x : ℕ) → x < stage.cells → FitsAt (stage.form x) (stage.entries x) stage.callers (state.spots x)
  pub memory : (c : ℕ) → c ≤ stage.callers → (state.shown c).end ≢ AgentEnd.NoMemory want
  pub stopped : (x c : ℕ) → x < stage.cells → c ≤ stage.callers → (state.shown c).end ≢ AgentEnd.Done
      → IsAnyPoint (stage.entries x) ((state.spots x).passes c).known

-- of which callers it is said, at which structures, that they were shown all that they have seen complete
abbrev pub Shows : Type 1
Shows = ℕ → ℕ → Type 0

pub record Agrees (stage : Stage) (shows : Shows) (state : State) (run : Run) : Type 0 where
  pub histories : length run.histories ≡ stage.cells
  pub transcripts : length run.transcripts ≡ stage.callers + 1
  pub numbers : length run.posted ≡ stage.cells
  pub shown : (c : ℕ) → c ≤ stage.callers → slice_get run.transcripts c ≡ Some (state.shown c)
  pub at : (x : ℕ) → x < stage.cells → AgreesAt stage.callers
      (stage.entries x) x (shows x) (state.spots x) state.shown (slice_get run.histories x) (slice_get run.posted x)

-- ---- steps

pub record Goes (stage : Stage) (shows shows' : Shows) (before after : State) (goes : Run → Run) : Type 0 where
  pub known : Known stage before → Known stage after
  pub back : Known stage before → Fits stage after → Fits stage before
  pub agrees : Known stage before → Fits stage after → (run : Run) → Agrees stage shows before run
      → Agrees stage shows' after (goes run)

pub goes_then : {stage : Stage} {shows shows' shows'' : Shows} {first second third : State} {goes goes' : Run → Run}
    → Goes stage shows shows' first second goes → Goes stage shows' shows'' second third goes'
    → Goes stage shows shows'' first third (λ run. goes' (goes run))
goes_then one two = record {
  known = λ known. two.known (one.known known);
  back = λ known fits. one.back known (two.back (one.known known) fits);
  agrees = λ known fits run agrees.
      two.agrees (one.known known) fits _ (one.agrees known (two.back (one.known known) fits) run agrees);
}

pub goes_not : {stage : Stage} {shows : Shows} {state : State} → Goes stage shows shows state state (λ run. run)
goes_not = record { known = λ known. known; back = λ known fits. fits; agrees = λ known fits run agrees. agrees }

-- the run goes in another way, which is the same wherever the two agree, and the histories fit
pub goes_where : {stage : Stage} {shows shows' : Shows} {before after : State} {goes goes' : Run → Run}
    → (Known stage before → Fits stage before → Fits stage after → (run : Run) → Agrees stage shows before run
    → goes' run ≡ goes run) → Goes stage shows shows' before after goes → Goes stage shows shows' before after goes'
goes_where same one = grind (arith, Agrees)

-- ---- a step at one structure by one caller

abbrev pub acted : ℕ → ℕ → Spot → Transcript → State → State
acted on by spot transcript state = record { spots = put on spot state.spots; shown = put by transcript state.shown }

pub known_acted : (stage : Stage) (on by : ℕ) (spot : Spot) (transcript : Transcript) (state : State) → (on
    < stage.cells → IsKnown stage.callers spot) → Known stage state → Known stage (acted on by spot transcript state)
known_acted stage on by spot transcript state here known = grind (arith, put_all, IsKnown)

pub fits_acted : (stage : Stage) (on by : ℕ) (spot : Spot) (transcript : Transcript) (state : State)
    → (on < stage.cells → FitsAt (stage.form on) (stage.entries on) stage.callers spot → FitsAt (stage.form on)
    (stage.entries on) stage.callers (state.spots on)) → ((c : ℕ) → c ≢ by → spot.passes c ≡ (state.spots on).passes
    c) → (state.shown by).end ≡ AgentEnd.Done → Fits stage (acted on by spot transcript state) → Fits stage state
fits_acted stage on by spot transcript state here others works fits =
    grind (arith, put_back, FitsAt, cases_eq, put, put_other, Spot, put_same)

-- what stands at the structure after the step
pub fits_here : (stage : Stage) (on by : ℕ) (spot : Spot) (transcript : Transcript) (state : State) → on < stage.cells
    → Fits stage (acted on by spot transcript state) → FitsAt (stage.form on) (stage.entries on) stage.callers spot
fits_here stage on by spot transcript state within fits = grind (arith, FitsAt, put_same)

pub record RunGoes (on by : ℕ) (history : AnyHistory) (number : ℕ) (transcript : Transcript)
    (run run' : Run) : Type 0 where
  pub histories : run'.histories ≡ set run.histories on history
  pub transcripts : run'.transcripts ≡ set run.transcripts by transcript
  pub numbers : run'.posted ≡ set run.posted on number
