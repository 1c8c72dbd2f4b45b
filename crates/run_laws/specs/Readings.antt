-- Readings of a report: the histories and transcripts that it may be a report of.
use Rattle.std.specs.Prelude.{◌≡◌, ℕ, ◌+◌, ◌<◌, ◌^◌, List, [], ◌∷◌, length, slice_get, Some}
use Rattle.cf_types.specs.declared.forms.StrForm.{StrForm}
use Rattle.cf_types.specs.Forms.{IsFacility}
use Rattle.engine_api.specs.declared.asks.What.{What}
use Rattle.engine_api.specs.declared.asks.What.TheVariants as what
use Rattle.engine_api.specs.declared.histories.Entry.{Entry}
use Rattle.plex_script.specs.declared.asks.AnyHistory.{AnyHistory}
use Rattle.plex_script.specs.declared.asks.AnyHistory.TheVariants as history
use Rattle.plex_script.specs.declared.scripts.Script.{Script}
use Rattle.plex_script.specs.declared.transcripts.AgentEnd.TheVariants as ended
use Rattle.plex_script.specs.declared.transcripts.Shown.{Shown}
use Rattle.plex_script.specs.declared.transcripts.Shown.TheVariants as shown
use Rattle.plex_script.specs.declared.transcripts.Transcript.{Transcript}
use Rattle.plex_script.specs.Follows.{Follows}
use Rattle.plex_script.specs.Scripts.{IsScript}
use Rattle.run_shown.specs.Headline.{IsHistoryOf}
use Rattle.plex_report.specs.Report.{report}

pub record Reading : Type 0 where
  pub histories : List AnyHistory
  pub transcripts : List Transcript

abbrev pub report_of : Script → Reading → List ℕ
report_of script reading = report script reading.histories reading.transcripts

-- the number that a test shows has at most 64 bits, and a word of a vector has 32
abbrev pub ShowsNumbers : Shown → Type 0
ShowsNumbers (shown.Call place number) = Unit {0}
ShowsNumbers (shown.Test place index bit at) = at < 2 ^ 64
ShowsNumbers (shown.Word place word bits at) = (bits < 2 ^ 32) × (at < 2 ^ 64)
ShowsNumbers (shown.BadIndex place index word len) = Unit {0}
ShowsNumbers (shown.Posted place sure) = Unit {0}
ShowsNumbers (shown.Took place sure) = Unit {0}

-- each mark names one of the facilities
abbrev pub NamesFacility : {C : Type 0} → What C → Type 0
NamesFacility (what.Call ask) = Unit {0}
NamesFacility (what.Lost cf) = IsFacility cf

abbrev pub NamesFacilities : {C R : Type 0} → List (Entry C R) → Type 0
NamesFacilities [] = Unit {0}
NamesFacilities (entry ∷ entries) = NamesFacility entry.what × NamesFacilities entries

abbrev pub MarksFacilities : AnyHistory → Type 0
MarksFacilities (history.Cache entries) = NamesFacilities entries
MarksFacilities (history.List entries) = NamesFacilities entries
MarksFacilities (history.Lock entries) = NamesFacilities entries

-- each history is legal, and its marks name facilities; each caller's transcript follows the script to its end, and what
-- tests show has the width of a number or a word
pub record IsReading (script : Script) (reading : Reading) : Type 0 where
  pub structures : length reading.histories ≡ length script.structures
  pub histories_right : (x : ℕ) (form : StrForm) (entries : AnyHistory) → slice_get script.structures x ≡ Some form
      → slice_get reading.histories x ≡ Some entries → IsHistoryOf script form entries
  pub facilities : (x : ℕ) (entries : AnyHistory) → slice_get reading.histories x ≡ Some entries
      → MarksFacilities entries
  pub callers : length reading.transcripts ≡ length script.connectors + 1
  pub follows : (c : ℕ) (transcript : Transcript) → slice_get reading.transcripts c ≡ Some transcript
      → (transcript.end ≡ ended.Done) × Follows script reading.histories (record { 0 = c }) transcript.items
  pub numbers : (c k : ℕ) (transcript : Transcript) (item : Shown) → slice_get reading.transcripts c ≡ Some transcript
      → slice_get transcript.items k ≡ Some item → ShowsNumbers item

-- no other reading of the script has this report
abbrev pub IsTheReading : Script → Reading → Type 0
IsTheReading script reading =
    (other : Reading) → IsReading script other → report_of script other ≡ report_of script reading
    → other ≡ reading

-- whichever readings of a script have the same report are the same
abbrev pub IsOnlyReading : Type 0
IsOnlyReading =
    (text : List ℕ) (script : Script) (one other : Reading) → IsScript text script → IsReading script one
    → IsReading script other → length (report_of script one) < 2 ^ 64
    → report_of script one ≡ report_of script other → one ≡ other
