-- What a run of the program means: which script came in, what goes out, and what each status says.
use Rattle.std.specs.Prelude.{◌≡◌, ◌⊎◌, ℕ, ◌≤◌, ◌<◌, ◌==◌, if◌then◌else◌, List, [], ◌∷◌, ◌++◌, ◌^◌, length, slice_get, Option, None, Some, IfSome, is_some, codes, nat_eq, true, false, IsTrue}
use Rattle.std.specs.List.{list_any}
use Rattle.plex_agent.specs.CfIo.declared.read_end.ReadEnd.{ReadEnd}
use Rattle.plex_agent.specs.CfIo.declared.read_end.ReadEnd.TheVariants as ends
use Rattle.plex_load.specs.CfTypes.declared.forms.StrForm.{StrForm}
use Rattle.plex_load.specs.CfTypes.declared.names.Name16.{Name16}
use Rattle.plex_load.specs.CfTypes.declared.numbers.CfId.{CfId}
use Rattle.plex_load.specs.CfTypes.declared.numbers.StrNo.{StrNo}
use Rattle.plex_agent.specs.CfLink.Links.{Telling}
use Rattle.plex_load.specs.PlexScript.declared.faults.Why.{Why}
use Rattle.plex_load.specs.PlexScript.declared.asks.AnyHistory.{AnyHistory}
use Rattle.plex_load.specs.PlexScript.declared.scripts.Script.{Script}
use Rattle.plex_load.specs.PlexScript.Scripts.{IsScript, IsFault}
use Rattle.plex_agent.specs.PlexBoard.Serial.{serial_run}
use Rattle.plex_agent.specs.PlexBoard.RunShown.Headline.{ShowsHistories}
use Rattle.run_laws.specs.Valid.{ShowsFresh}
use Rattle.run_laws.specs.Bounds.{most_entries}
use Rattle.plex_agent.specs.declared.in_turn.Finished.{Finished}
use Rattle.run_laws.specs.Readings.{Reading, IsReading, IsTheReading, MarksFacilities, report_of}
use Rattle.plex_run.specs.declared.program.TheConstants.{SCRIPT_LIMIT, JOURNAL_LIMIT}
use Rattle.plex_run.specs.declared.way.Way.{Way}
use Rattle.plex_run.specs.declared.way.Way.TheVariants as ways
use Rattle.plex_run.specs.Written.{Output, HasFailed, Writes, WritesFront, Gains, BreaksOff}
use Rattle.plex_run.specs.Wires.{Wires}
use Rattle.plex_run.specs.Full.{full_structure}
use Rattle.plex_run.specs.Statuses.{Task, Word, EndsText}
use Rattle.plex_run.specs.StatusLines.{why_word, full_line, memory_line}

-- the greatest length of a script, in bytes
abbrev pub script_limit : ℕ
script_limit = SCRIPT_LIMIT

-- a journal with so many entries takes no call
abbrev pub journal_limit : ℕ
journal_limit = JOURNAL_LIMIT

-- the statuses of the program
abbrev pub IsStatus : ℕ → Type 0
IsStatus status = IsTrue (list_any (nat_eq status) (0 ∷ 2 ∷ 3 ∷ 4 ∷ 5 ∷ 6 ∷ 7 ∷ 8 ∷ 9 ∷ []))

-- what is written with the statuses whose line is always the same, and stands alone
abbrev pub status_line : ℕ → Option (List ℕ)
status_line status =
    if status == 2 then Some (codes "USAGE plexrun serial or threads or load N or locks or check\n")
    else if status == 4 then Some (codes "FAULT READ\n")
    else None

-- the status where no text came
abbrev pub read_status : ReadEnd → ℕ
read_status ends.ReadFault = 4
read_status (ends.TooLong limit) = 7
read_status (ends.NoMemory cause) = 6

-- ---- texts

-- a text is refused for what is told of this line, the first faulty one
abbrev pub IsRefused : List ℕ → ℕ → List ℕ → Type 0
IsRefused text line told = (why : Why) × IsFault text line why × (told ≡ why_word why)

-- ---- runs

-- the first structure whose journal got full in a run
abbrev pub full_of : Script → Reading → Option Name16
full_of script reading = full_structure script.structures reading.transcripts

-- the lines on the structure that is told, and the closings, can fill its journal
abbrev pub CanFill : Script → Option Name16 → Type 0
CanFill script full =
    IfSome full (λ name. (on : StrNo) × (form : StrForm) × (slice_get script.structures on.0 ≡ Some form)
    × (form.name ≡ name) × (journal_limit ≤ most_entries script on))

-- what is written of a run: its report, behind the line of a structure whose journal got full
abbrev pub run_text : Script → Reading → List ℕ
run_text script reading = full_line (full_of script reading) ++ report_of script reading

-- the status of a run where no write fails: 8 where a journal got full
abbrev pub run_status : Script → Reading → ℕ
run_status script reading = if is_some (full_of script reading) then 8 else 0

-- what the run on one thread leaves, over links that tell this
abbrev pub serial_reading : (ℕ → CfId → Telling) → Script → Reading
serial_reading told script =
    let run = serial_run journal_limit told script in
    record { histories = run.histories; transcripts = run.transcripts }

abbrev pub full_in_run : (ℕ → CfId → Telling) → Script → Option Name16
full_in_run told script = full_of script (serial_reading told script)

-- the status of the run on one thread, where no write fails
abbrev pub serial_status : (ℕ → CfId → Telling) → Script → ℕ
serial_status told script = run_status script (serial_reading told script)

-- legal histories of the structures, each caller's calls in them once and in their order, and tests that tell what
-- stood
abbrev pub ShowsRun : Script → Reading → Type 0
ShowsRun script reading = ShowsHistories journal_limit script reading.histories reading.transcripts

-- what a run left
abbrev pub reading_of : Finished → Reading
reading_of finished = record { histories = finished.histories; transcripts = finished.transcripts }

-- the marks of each history name facilities
abbrev pub AreMarked : Reading → Type 0
AreMarked reading =
    (x : ℕ) (entries : AnyHistory) → slice_get reading.histories x ≡ Some entries → MarksFacilities entries

-- in turn, and over links that tell this, it is exactly what the run on one thread leaves
abbrev pub IsSerialOver : Wires → Script → Reading → Type 0
IsSerialOver links script reading =
    (told : ℕ → CfId → Telling) → links.telling told (length script.structures) → reading ≡ serial_reading told script

-- a script's run leaves this, and its links
pub record IsRunOf (links : Wires) (by : Way) (script : Script) (reading : Reading) : Type 0 where
  pub shows : ShowsRun script reading
  pub asked : links.asked script.structures reading.histories
  pub marks : AreMarked reading
  pub in_turn : by ≡ ways.InTurn → IsSerialOver links script reading

-- what is written of a script's run with each status
pub record WritesRun (script : Script) (reading : Reading) (out : Output) (status : ℕ) : Type 0 where
  pub whole : status ≡ 0 → Writes out (run_text script reading)
  pub none_full : (status ≡ 0) ⊎ (status ≡ 5) → is_some (full_of script reading) ≡ false
  pub full : status ≡ 8 → (is_some (full_of script reading) ≡ true) × Gains out (run_text script reading)
  pub front : status ≡ 5 → HasFailed out × WritesFront out (run_text script reading)
  pub broken_off : status ≡ 6 → BreaksOff out (run_text script reading) memory_line
  pub short : status ≡ 0 → length (report_of script reading) < 2 ^ 64

-- how the run of a script ends: without memory for it, or with what is written of it
abbrev pub EndsRun : Wires → Way → Script → Output → ℕ → Type 0
EndsRun links by script out status =
    ((status ≡ 6) × Gains out memory_line)
    ⊎ ((reading : Reading) × IsRunOf links by script reading × WritesRun script reading out status)

-- ---- what each status says of the text that came

-- the text says this script, and a run of it in this way left this reading. Its histories are legal and hold each
-- caller's calls once and in their order; each test tells what stood at a numbered point of them; a test of a cache
-- that tells VALID tells a fresh copy at that point; a journal got full only where the script can fill it; the links
-- were asked, and answered, as the histories tell; and in turn it is what the run on one thread leaves.
pub record IsRun (links : Wires) (by : Way) (text : List ℕ) (script : Script) (reading : Reading) : Type 0 where
  pub says : IsScript text script
  pub shows : ShowsRun script reading
  pub asked : links.asked script.structures reading.histories
  pub marks : AreMarked reading
  pub fresh : ShowsFresh script reading.histories reading.transcripts
  pub can_fill : CanFill script (full_of script reading)
  pub in_turn : by ≡ ways.InTurn → IsSerialOver links script reading

-- what comes of a text that says a script: a run of it in this way, told by its report, behind the line of the first
-- structure whose journal got full. Where all of a report was written and no journal got full, each caller's work was
-- done, and of no other reading of the script could it have been the report, whatever the tests in it tell.
abbrev pub running : Wires → Way → List ℕ → Task
running links by text =
    record {
      Outcome = Script × Reading;
      Comes = λ it. IsRun links by text it.0 it.1;
      status = λ it. run_status it.0 it.1;
      told = λ it. run_text it.0 it.1;
      Seals = λ it. IsReading it.0 it.1 × IsTheReading it.0 it.1;
      in_parts = true;
    }

-- a line was written, whatever stands before it: whole, unless a write failed, and then a front of both
abbrev pub EndsWith : Output → List ℕ → Type 0
EndsWith out line = (front : List ℕ) × Gains out (front ++ line)

-- the status is that of the run on one thread: 8 where a journal got full, and else 0, or 5
abbrev pub IsSerialStatus : (ℕ → CfId → Telling) → Script → ℕ → Type 0
IsSerialStatus told script status =
    (status ≡ serial_status told script) ⊎ ((status ≡ 5) × (full_in_run told script ≡ None))

-- a script, run in turn over links that tell which calls are down, has that status
abbrev pub IsComplete : Wires → List ℕ → ℕ → Type 0
IsComplete links text status =
    (script : Script) → IsScript text script → (told : ℕ → CfId → Telling)
    → links.telling told (length script.structures) → IsSerialStatus told script status

-- a script has the status 0, or 5, or 8 where a journal got full; and in turn that of the run on one thread
abbrev pub IsRunWhole : Wires → Way → List ℕ → ℕ → Type 0
IsRunWhole links by text status =
    ((status ≡ 0) ⊎ ((status ≡ 5) ⊎ (status ≡ 8))) × (by ≡ ways.InTurn → IsComplete links text status)

-- a text is longer than a script may be
abbrev pub IsTooLong : List ℕ → ℕ → Type 0
IsTooLong text limit = (limit ≡ script_limit) × (script_limit < length text)

-- a word for which the script that comes is run in this way
abbrev pub script_word : Wires → Way → Word
script_word links by =
    record {
      IsTooLong = IsTooLong;
      Refuses = IsRefused;
      Takes = λ text. (script : Script) × IsScript text script;
      task = running links by;
      Settles = IsRunWhole links by;
    }

-- the run of a text in this way ends so
abbrev pub EndsRight : Wires → Way → List ℕ → Output → ℕ → Type 0
EndsRight links by text out status = EndsText (script_word links by) text out status
