-- How far a text is a report's front, and where it isn't.
use Rattle.std.specs.Prelude.{◌≡◌, ℕ, true, List, [], ◌∷◌, ◌++◌, length, drop}
use Rattle.std.specs.List.{flat_map}
use Rattle.report_texts.specs.CheckModel.RunShown.CfTypes.declared.numbers.StrNo.{StrNo}
use Rattle.report_texts.specs.CheckModel.RunShown.PlexScript.declared.scripts.Script.{Script}
use Rattle.report_texts.specs.CheckModel.RunShown.PlexScript.Causes.{kind_of}
use Rattle.report_texts.specs.CheckModel.declared.printed.Printed.{Printed}
use Rattle.report_texts.specs.PlexReport.PlexSpell.Words.{line_text}
use Rattle.report_texts.specs.PlexReport.Report.{report_lines}
use Rattle.report_texts.specs.Readable.{AreReadable}
use Rattle.report_fronts.specs.Cuts.{is_free, AreFree}
use Rattle.report_fronts.specs.Slots.{Slot, IsEntryLine, IsItemLine, Takes, Leads, report_slots}

-- the text begins with these lines, so many, and behind them it goes on from a place; of a report's slots these are
-- left
pub record Stands (script : Script) (text : List ℕ) (from count : ℕ) (lines : List (List ℕ)) (left : List Slot)
    : Type 0 where
  pub whole : text ≡ flat_map line_text lines ++ drop from text
  pub free : AreFree lines
  pub many : count ≡ length lines
  pub leads : Leads script (report_slots script) lines left

-- the text that is left begins with no line that fills the next slot, or with none, and is no report's end
pub record IsStuck (script : Script) (left : List Slot) (rest : List ℕ) : Type 0 where
  pub line : (line more : List ℕ) (next : List Slot) → is_free line ≡ true → rest ≡ line ++ 10 ∷ more
      → Takes script left line next → ⊥
  pub ends : rest ≡ [] → left ≡ [] → ⊥

-- no line of a report has a feed
abbrev pub AreReportsFree : Script → Type 0
AreReportsFree script =
    (printed : Printed) → AreReadable script printed
    → AreFree (report_lines script printed.histories printed.transcripts)

-- no line of an entry has a feed, and none of an item
abbrev pub AreEntriesFree : Script → Type 0
AreEntriesFree script =
    (on : StrNo) (line : List ℕ) → IsEntryLine script on (kind_of script.structures on) line → is_free line ≡ true

abbrev pub AreItemsFree : Script → Type 0
AreItemsFree script = (line : List ℕ) → IsItemLine script line → is_free line ≡ true
