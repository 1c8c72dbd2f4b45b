-- Transcripts that a report may show.
use Rattle.std.specs.Prelude.{◌≡◌, ◌<◌, ◌^◌, ℕ, List, length, codes, All}
use Rattle.report_texts.specs.CheckModel.RunShown.PlexScript.declared.scripts.Script.{Script}
use Rattle.report_texts.specs.CheckModel.RunShown.PlexScript.declared.transcripts.AgentEnd.TheVariants as ended
use Rattle.report_texts.specs.CheckModel.RunShown.PlexScript.declared.transcripts.Transcript.{Transcript}
use Rattle.report_texts.specs.PlexReport.Lines.{heading}
use Rattle.report_texts.specs.PlexReport.Naming.{caller_name}
use Rattle.report_lines.specs.Readable.{IsItem}

-- the heading of a caller's transcript with so many items
abbrev pub transcript_heading : Script → ℕ → ℕ → List ℕ
transcript_heading script number n = heading (codes "TRANSCRIPT") (caller_name script number) n

-- each item is one that a line may show
pub record IsTranscript (script : Script) (transcript : Transcript) : Type 0 where
  pub done : transcript.end ≡ ended.Done
  pub count : length transcript.items < 2 ^ 64
  pub each : All (IsItem script) transcript.items
