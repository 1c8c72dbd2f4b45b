-- Which texts are reports of a script, and the first line up to which a text is the front of none.
use Rattle.std.specs.Prelude.{◌≡◌, ℕ, zero, suc, ◌+◌, ◌-◌, ◌≤◌, ◌==◌, if◌then◌else◌, List, [], ◌∷◌, ◌++◌, length, filter}
use Rattle.check_model.specs.RunShown.PlexScript.declared.scripts.Script.{Script}
use Rattle.check_model.specs.declared.printed.Printed.{Printed}
use Rattle.plex_report.specs.Report.{report}
use Rattle.report_texts.specs.Readable.{AreReadable}

-- the report of a script with what is printed
abbrev pub report_of : Script → Printed → List ℕ
report_of script printed = report script printed.histories printed.transcripts

abbrev pub IsReport : Script → List ℕ → Printed → Type 0
IsReport script text printed = AreReadable script printed × (text ≡ report_of script printed)

-- some report begins so
abbrev pub IsFront : Script → List ℕ → Type 0
IsFront script front =
    (printed : Printed) × AreReadable script printed × ((rest : List ℕ) × (report_of script printed ≡ front ++ rest))

-- the text up to its line feed with this number, and with it; all of it where it has fewer
abbrev pub front_of : ℕ → List ℕ → List ℕ
front_of zero text = []
front_of (suc n) [] = []
front_of (suc n) (byte ∷ text) = byte ∷ (if byte == 10 then front_of n text else front_of (suc n) text)

abbrev pub feeds : List ℕ → ℕ
feeds text = length (filter (λ byte. byte == 10) text)

-- The first line, from 1, up to which the text is the front of no report. Where its lines are all right, and some are
-- lacking, it is the number after the last; where the last line has no feed, it is that line's own.
pub record IsFirstUnread (script : Script) (text : List ℕ) (line : ℕ) : Type 0 where
  pub unread : (printed : Printed) → IsReport script text printed → ⊥
  pub some : 1 ≤ line
  pub last : line ≤ feeds text + 1
  pub before : IsFront script (front_of (line - 1) text)
  pub here : line ≤ feeds text → IsFront script (front_of line text) → ⊥
