-- What is read to the end of a text.
use Rattle.std.specs.Prelude.{◌≡◌, ◌+◌, ℕ, List, ◌++◌, length, slice_get, Some}
use Rattle.std.specs.List.{flat_map}
use Rattle.report_texts.specs.CheckModel.RunShown.PlexScript.declared.scripts.Script.{Script}
use Rattle.report_texts.specs.CheckModel.RunShown.PlexScript.declared.transcripts.Transcript.{Transcript}
use Rattle.report_texts.specs.PlexReport.PlexSpell.Words.{line_text}
use Rattle.report_texts.specs.Texts.{IsFirstUnread}
use Rattle.report_fronts.specs.Fronts.{Stands}
use Rattle.report_fronts.specs.Slots.{Slot}
use Rattle.report_read.specs.declared.cursor.Cursor.{Cursor}
use Rattle.report_read.specs.declared.cursor.TextBad.{TextBad}
use Rattle.report_read.specs.declared.cursor.TextBad.TheVariants as bad
use Rattle.report_read.specs.Transcripts.{IsTranscript}

-- a transcript for each caller
pub record AreTranscripts (script : Script) (transcripts : List Transcript) : Type 0 where
  pub long : length transcripts ≡ length script.connectors + 1
  pub each : (c : ℕ) (transcript : Transcript) → slice_get transcripts c ≡ Some transcript
      → IsTranscript script transcript

module _ (script : Script) (text : List ℕ) (from : Cursor) where
  -- wherever just these slots are left, these lines are all that stands there
  abbrev pub EndsWith : List Slot → List (List ℕ) → Type 0
  EndsWith slots lines =
      (before : List (List ℕ)) → Stands script text from.at from.count before slots
      → text ≡ flat_map line_text (before ++ lines)

  -- wherever just these slots are left, the line that is told is the first that is no report's
  abbrev pub IsEndStop : List Slot → TextBad → Type 0
  IsEndStop slots (bad.Line line) =
      (before : List (List ℕ)) → Stands script text from.at from.count before slots → IsFirstUnread script text line
  IsEndStop slots (bad.NoMemory cause) = Unit {0}
