-- What a check of a report means: how the text that comes is split, what is said of its report, and what each status
-- says.
use Rattle.std.specs.Prelude.{◌≡◌, ◌⊎◌, ℕ, ◌<◌, ◌≤◌, false, List, [], ◌∷◌, ◌++◌, length, codes}
use Rattle.std.specs.Fmt.{decimal}
use Rattle.plex_load.specs.PlexScript.PlexPlain.Naming.{caller_name, structure_name}
use Rattle.plex_load.specs.PlexScript.declared.faults.Why.{Why}
use Rattle.plex_load.specs.PlexScript.declared.scripts.Script.{Script}
use Rattle.plex_load.specs.PlexScript.Scripts.{IsScript, IsFault}
use Rattle.check_model.specs.declared.checked.Checked.{Checked}
use Rattle.check_model.specs.declared.checked.Checked.TheVariants as checked
use Rattle.check_model.specs.declared.printed.Printed.{Printed}
use Rattle.check_model.specs.Judged.{Judges}
use Rattle.report_texts.specs.Texts.{IsReport, IsFirstUnread}
use Rattle.report_read.specs.Picked.{ArePicked}
use Rattle.plex_run.specs.declared.checking.TheConstants.{CHECK_LIMIT}
use Rattle.plex_run.specs.declared.checking.Found.{Found}
use Rattle.plex_run.specs.declared.checking.Found.TheVariants as found
use Rattle.plex_run.specs.Written.{Output}
use Rattle.plex_run.specs.Cutting.{IsSplit, HasNoReport}
use Rattle.plex_run.specs.StatusLines.{why_word}
use Rattle.plex_run.specs.Statuses.{Task, Word, EndsText}
use Rattle.plex_run.specs.Outcome.{script_limit}

-- the greatest length of a script and its report, in bytes
abbrev pub check_limit : ℕ
check_limit = CHECK_LIMIT

-- ---- what is said of a report

-- that it keeps what reports promise, with so many entries in all; the first line that is none of a report; the first
-- structure whose history isn't legal, and where it breaks off; the first caller whose transcript is wrong, and where
pub data Verdict : Type 0 where
  Sure : ℕ → Verdict
  NoText : ℕ → Verdict
  NoEntry : List ℕ → ℕ → Verdict
  NoItem : List ℕ → ℕ → Verdict

abbrev pub verdict_line : Verdict → List ℕ
verdict_line (Sure n) = codes "YES " ++ decimal n ++ 10 ∷ []
verdict_line (NoText line) = codes "NO TEXT " ++ decimal line ++ 10 ∷ []
verdict_line (NoEntry name place) = codes "NO " ++ name ++ 32 ∷ [] ++ decimal place ++ 10 ∷ []
verdict_line (NoItem name item) = codes "NO TRANSCRIPT " ++ name ++ 32 ∷ [] ++ decimal item ++ 10 ∷ []

abbrev pub verdict_status : Verdict → ℕ
verdict_status (Sure n) = 0
verdict_status (NoText line) = 9
verdict_status (NoEntry name place) = 9
verdict_status (NoItem name item) = 9

-- what is said of what a report prints
abbrev pub verdict_of_checked : Script → Checked → Verdict
verdict_of_checked script (checked.Yes n) = Sure n
verdict_of_checked script (checked.BadEntry on place) = NoEntry (structure_name script.structures on.0) place
verdict_of_checked script (checked.BadItem by item) = NoItem (caller_name script.connectors by.0) item

abbrev pub verdict_of : Script → Found → Verdict
verdict_of script (found.Unread line) = NoText line
verdict_of script (found.Judged answer) = verdict_of_checked script answer

-- this is to be said of what should be a report of the script: where it is none, the first line up to which it begins
-- none; else what a check answers of what it prints
abbrev pub IsSaid : Script → List ℕ → Verdict → Type 0
IsSaid script rest verdict =
    ((line : ℕ) × IsFirstUnread script rest line × (verdict ≡ NoText line))
    ⊎ ((printed : Printed) × IsReport script rest printed × ArePicked script printed
    × ((answer : Checked) × Judges script printed answer × (verdict ≡ verdict_of_checked script answer)))

-- this is to be said of the text: it is split, a script comes first, and behind it what should be its report
pub record IsVerdict (text : List ℕ) (verdict : Verdict) : Type 0 where
  pub part : List ℕ
  pub rest : List ℕ
  pub script : Script
  pub split : IsSplit text part rest
  pub says : IsScript part script
  pub said : IsSaid script rest verdict

-- each text is read in one way as a report of the script, where what is read is picked
abbrev pub ReadsOne : Script → Type 0
ReadsOne script =
    (text : List ℕ) (one other : Printed) → IsReport script text one → ArePicked script one
    → IsReport script text other → ArePicked script other → one ≡ other

-- what is printed is judged in one way
abbrev pub IsOneAnswer : Script → Printed → Type 0
IsOneAnswer script printed =
    (one other : Checked) → Judges script printed one → Judges script printed other → one ≡ other

-- all that is to be said has the status of this
abbrev pub IsOnlyStatus : Script → List ℕ → Verdict → Type 0
IsOnlyStatus script rest verdict =
    (other : Verdict) → IsSaid script rest other → verdict_status other ≡ verdict_status verdict

-- a script comes first, and this is to be said of what stands behind it
pub record IsJudged (part rest : List ℕ) (script : Script) (verdict : Verdict) : Type 0 where
  pub says : IsScript part script
  pub said : IsSaid script rest verdict
  pub only : IsOnlyStatus script rest verdict

-- ---- what each status says of the text that came

-- the whole is too long; or else its script is
abbrev pub IsTooLongWhole : List ℕ → ℕ → Type 0
IsTooLongWhole text limit = (limit ≡ check_limit) × (check_limit < length text)

abbrev pub IsScriptTooLong : List ℕ → ℕ → Type 0
IsScriptTooLong text limit =
    (limit ≡ script_limit) × (length text ≤ check_limit)
    × ((part rest : List ℕ) × IsSplit text part rest × (script_limit < length part))

abbrev pub IsCheckTooLong : List ℕ → ℕ → Type 0
IsCheckTooLong text limit = IsTooLongWhole text limit ⊎ IsScriptTooLong text limit

-- a text is refused where no line is REPORT, or for the first faulty line of its script
abbrev pub IsUncheckedAt : List ℕ → ℕ → List ℕ → Type 0
IsUncheckedAt text line told =
    (HasNoReport text × (line ≡ 0) × (told ≡ codes "NOREPORT"))
    ⊎ ((part rest : List ℕ) × (why : Why) × IsSplit text part rest × IsFault part line why × (told ≡ why_word why))

-- what comes of a text with a script: what is to be said of its report
abbrev pub checking : List ℕ → Task
checking text =
    record {
      Outcome = Verdict;
      Comes = IsVerdict text;
      status = verdict_status;
      told = verdict_line;
      Seals = λ verdict. Unit {0};
      in_parts = false;
    }

-- the status is that of whatever is to be said of the text, unless a write failed
abbrev pub IsSettledBy : List ℕ → ℕ → Type 0
IsSettledBy text status =
    (verdict : Verdict) → IsVerdict text verdict
    → (status ≡ verdict_status verdict) ⊎ ((status ≡ 5) × (verdict_status verdict ≡ 0))

-- the word for which a report is checked
abbrev pub check_word : Word
check_word =
    record {
      IsTooLong = IsCheckTooLong;
      Refuses = IsUncheckedAt;
      Takes = λ text. (verdict : Verdict) × IsVerdict text verdict;
      task = checking;
      Settles = IsSettledBy;
    }

-- the check of a text ends so
abbrev pub EndsCheck : List ℕ → Output → ℕ → Type 0
EndsCheck text out status = EndsText check_word text out status
