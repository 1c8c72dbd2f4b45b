-- What a caller's transcript shows, however the caller's work ended: also where memory was lacking.
use Rattle.std.specs.Prelude.{◌≡◌, ◌≢◌, ◌⊎◌, ◌<◌, ℕ, true, List, [], ◌∷◌, ◌++◌, length, map, take, slice_get, None, Some, All}
use Rattle.plex_board.specs.CfTypes.declared.forms.StrForm.{StrForm}
use Rattle.plex_board.specs.CfTypes.declared.numbers.ConnId.{ConnId}
use Rattle.plex_board.specs.CfTypes.declared.numbers.StrNo.{StrNo}
use Rattle.plex_board.specs.PlexScript.declared.agents.Step.TheVariants as step
use Rattle.plex_board.specs.PlexScript.declared.asks.AnyHistory.{AnyHistory}
use Rattle.plex_board.specs.PlexScript.declared.scripts.Act.{Act}
use Rattle.plex_board.specs.PlexScript.declared.scripts.Act.TheVariants as act
use Rattle.plex_board.specs.PlexScript.declared.scripts.Line.{Line}
use Rattle.plex_board.specs.PlexScript.declared.scripts.Script.{Script}
use Rattle.plex_board.specs.PlexScript.declared.transcripts.AgentEnd.{AgentEnd}
use Rattle.plex_board.specs.PlexScript.declared.transcripts.AgentEnd.TheVariants as ended
use Rattle.plex_board.specs.PlexScript.declared.transcripts.Shown.{Shown}
use Rattle.plex_board.specs.PlexScript.declared.transcripts.Transcript.{Transcript}
use Rattle.plex_board.specs.PlexScript.Agent.{first_step}
use Rattle.plex_board.specs.PlexScript.Heard.{AnyCall, calls_on}
use Rattle.plex_board.specs.PlexScript.Follows.{RunsUpTo, ShowsLines, ShowsClosings, AgreesWith, Follows, Stops, is_linked_by, lines_of}
use Rattle.plex_board.specs.RunShown.Headline.{TestsTell}
use Rattle.plex_board.specs.Boards.{BoardShown, IsStarted, AreClosed, new_desk}
use Rattle.plex_board.specs.Turns.{AtWork}
use Rattle.plex_board.specs.Callers.{no_items}
use Rattle.plex_agent.specs.Chains.{Serves}

-- a caller that has done nothing yet
abbrev pub beginner : {L : Type 0} → BoardShown L → ConnId → AtWork
beginner board conn = record { desk = new_desk board conn.0; shown = no_items }

-- what is left of a board that was started for the script, and closed with the desks of these callers
pub record IsLeft {L : Type 0} (limit : ℕ) (script : Script) (board : BoardShown L) (histories : List AnyHistory)
    (workers : List AtWork) : Type 0 where
  pub forms : map (λ cell. cell.form) board.cells ≡ script.structures
  pub cells : All (IsStarted (length script.connectors) limit) board.cells
  pub closed : AreClosed board (map (λ worker. worker.desk) workers) histories

-- the items that a line's act shows up to a next one
abbrev pub ShowsUpTo : StrForm → List AnyCall → ConnId → StrNo → ℕ → Act → List Shown → Type 0
ShowsUpTo form calls by on retry (act.Call asked) items =
    RunsUpTo form.kind (Some asked) calls by on (step.Call retry) items
ShowsUpTo form calls by on retry act.Events items =
    RunsUpTo form.kind None calls by on (first_step act.Events retry) items
ShowsUpTo form calls by on retry (act.Test index) items = items ≡ []
ShowsUpTo form calls by on retry (act.TestWord word) items = items ≡ []
ShowsUpTo form calls by on retry act.Post items = items ≡ []
ShowsUpTo form calls by on retry act.Take items = items ≡ []

-- the items are those of the caller's first lines, and of one more up to a next one
pub record BreaksInLine (script : Script) (histories : List AnyHistory) (conn : ConnId) (items : List Shown)
    : Type 0 where
  pub before : List Line
  pub line : Line
  pub later : List Line
  pub lines : lines_of script conn ≡ before ++ line ∷ later
  pub form : StrForm
  pub known : slice_get script.structures line.on.0 ≡ Some form
  pub during : List Shown
  pub last : List Shown
  pub shows : items ≡ during ++ last
  pub played : ShowsLines script.structures histories before during
  pub broken : ShowsUpTo form (calls_on histories line.on) conn line.on line.retry line.act last

-- the items are those of all its lines, and of its first departures; it was active at the next structure
pub record BreaksInClosing (script : Script) (histories : List AnyHistory) (conn : ConnId) (items : List Shown)
    : Type 0 where
  pub during : List Shown
  pub after : List Shown
  pub shows : items ≡ during ++ after
  pub lines : ShowsLines script.structures histories (lines_of script conn) during
  pub connector : conn.0 ≢ 0
  pub on : StrNo
  pub within : on.0 < length script.structures
  pub closings : ShowsClosings histories conn 0 (take on.0 script.structures) during after
  pub linked : is_linked_by (calls_on histories on) conn on during ≡ true

-- the items are those that the caller's lines and its closing give up to a next one
pub record BreaksOff (script : Script) (histories : List AnyHistory) (conn : ConnId) (items : List Shown)
    : Type 0 where
  pub at : BreaksInLine script histories conn items ⊎ BreaksInClosing script histories conn items
  pub agrees : AgreesWith histories conn items

-- a transcript follows the script, or stops at a full journal, or breaks off where memory was lacking
abbrev pub WorkEnds : ℕ → Script → List AnyHistory → ConnId → List Shown → AgentEnd → Type 0
WorkEnds limit script histories conn items ended.Done = Follows script histories conn items
WorkEnds limit script histories conn items (ended.JournalFull on) = Stops limit script histories conn items on
WorkEnds limit script histories conn items (ended.NoMemory cause) = BreaksOff script histories conn items

-- what one caller's transcript shows: the caller's calls, each once and in their order, as far as its work came, and
-- tests that tell what stood
pub record ShowsWork (limit : ℕ) (script : Script) (histories : List AnyHistory) (conn : ConnId)
    (shown : Transcript) : Type 0 where
  pub ends : WorkEnds limit script histories conn shown.items shown.end
  pub tests : TestsTell script.structures histories conn shown.items

-- whoever worked at the board of this script as a caller does, its transcript shows that work
abbrev pub ShowsWhoServed : {L : Type 0} → ℕ → Script → BoardShown L → List AnyHistory → List AtWork → Type 0
ShowsWhoServed limit script board histories workers =
    (c : ℕ) (worker : AtWork) → IsLeft limit script board histories workers → slice_get workers c ≡ Some worker
    → Serves board script.lines (beginner board (record { 0 = c })) worker
    → ShowsWork limit script histories (record { 0 = c }) worker.shown
