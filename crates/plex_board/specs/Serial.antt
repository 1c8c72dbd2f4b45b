-- The run of a script on one thread, over links that tell which calls they answer Down: its lines in their order, then
-- the closings of the connectors in number order.
use Rattle.std.specs.Prelude.{ℕ, zero, suc, ◌+◌, ◌*◌, nat_le, nat_lt, Bool, true, false, if◌then◌else◌, List, [], ◌∷◌, ◌++◌, length, fold, map, replicate, max, slice_get, slice_index, slice_set, Option, None, Some}
use Rattle.std.specs.List.{enumerate_from}
use Rattle.plex_script.specs.CfTypes.declared.forms.StrForm.{StrForm}
use Rattle.plex_script.specs.CfTypes.declared.numbers.CfId.{CfId}
use Rattle.plex_script.specs.CfTypes.declared.numbers.ConnId.{ConnId}
use Rattle.plex_script.specs.CfTypes.declared.numbers.StrNo.{StrNo}
use Rattle.plex_script.specs.CfTypes.declared.shell_commands.ShellCmd.TheVariants as cmd
use Rattle.struct_cell.specs.CfLink.Links.{Telling}
use Rattle.plex_script.specs.declared.agents.Step.{Step}
use Rattle.plex_script.specs.declared.agents.Step.TheVariants as step
use Rattle.plex_script.specs.declared.scripts.AnyAsk.{AnyAsk}
use Rattle.plex_script.specs.declared.asks.AnyHistory.{AnyHistory}
use Rattle.plex_script.specs.declared.scripts.Act.{Act}
use Rattle.plex_script.specs.declared.scripts.Act.TheVariants as act
use Rattle.plex_script.specs.declared.scripts.Line.{Line}
use Rattle.plex_script.specs.declared.scripts.Script.{Script}
use Rattle.plex_script.specs.declared.transcripts.AgentEnd.{AgentEnd}
use Rattle.plex_script.specs.declared.transcripts.AgentEnd.TheVariants as ended
use Rattle.plex_script.specs.declared.transcripts.Shown.{Shown}
use Rattle.plex_script.specs.declared.transcripts.Shown.TheVariants as shown
use Rattle.plex_script.specs.declared.transcripts.Transcript.{Transcript}
use Rattle.plex_script.specs.Agent.{first_step, step_after, most_asks, asked_by, shell_ask}
use Rattle.plex_script.specs.Heard.{any_calls, any_length, own_calls, is_linked}
use Rattle.run_shown.specs.Kinds.{no_calls, any_stands, any_word, numbers_from}
use Rattle.plex_board.specs.AnyCalls.{any_next, any_told}
use Rattle.run_shown.specs.Numbers.{seen_on}

-- the history of each structure, the transcript of each caller, from the operator on, and for each structure the
-- number that was posted last, 0 where none was
pub record Run : Type 0 where
  pub histories : List AnyHistory
  pub transcripts : List Transcript
  pub posted : List ℕ

abbrev pub no_items : Transcript
no_items = record { items = []; end = ended.Done }

-- nothing yet
abbrev pub start : Script → Run
start script =
    record {
      histories = map (λ form. no_calls form.kind) script.structures;
      transcripts = replicate (length script.connectors + 1) no_items;
      posted = replicate (length script.structures) 0;
    }

-- ---- transcripts

abbrev pub transcript_at : Option Transcript → Transcript
transcript_at None = no_items
transcript_at (Some transcript) = transcript

abbrev pub transcript_of : Run → ConnId → Transcript
transcript_of run conn = transcript_at (slice_get run.transcripts conn.0)

abbrev pub is_done_as : AgentEnd → Bool
is_done_as ended.Done = true
is_done_as (ended.JournalFull on) = false
is_done_as (ended.NoMemory cause) = false

-- the caller's work goes on
abbrev pub is_done : Run → ConnId → Bool
is_done run conn = is_done_as (transcript_of run conn).end

-- one more item for a caller
abbrev pub shown_to : ConnId → Shown → Run → Run
shown_to conn item run =
    let transcript = transcript_of run conn in
    record run {
      transcripts = slice_set run.transcripts conn.0 (record transcript {
        items = transcript.items
            ++ item ∷ [];
      });
    }

-- the caller came to a full journal
abbrev pub stopped_at : ConnId → StrNo → Run → Run
stopped_at conn on run =
    record run {
      transcripts = slice_set run.transcripts conn.0 (record (transcript_of run conn) { end = ended.JournalFull on });
    }

-- ---- tests

-- a test shows the bit with the number of the last call
abbrev pub test_shown : StrForm → StrNo → ℕ → ConnId → AnyHistory → Shown
test_shown form on index by entries =
    if nat_lt index form.vector
    then shown.Test on index (any_stands form entries by index) (any_length entries)
    else shown.BadIndex on index false form.vector

abbrev pub word_shown : StrForm → StrNo → ℕ → ConnId → AnyHistory → Shown
word_shown form on word by entries =
    if nat_lt (32 * word) form.vector
    then shown.Word on word (any_word form entries by word) (any_length entries)
    else shown.BadIndex on word true form.vector

abbrev pub with_shown : ConnId → Option AnyHistory → (AnyHistory → Shown) → Run → Run
with_shown by None item run = run
with_shown by (Some entries) item run = shown_to by (item entries) run

-- the connectors, in number order
abbrev pub connectors : Script → List ConnId
connectors script = map (λ (number : ℕ). (let conn : ConnId = record { 0 = number } in conn))
    (numbers_from 1 (length script.connectors))

-- ---- notes

-- the greatest number that a caller was shown of a structure
abbrev pub number_of : Run → ConnId → StrNo → ℕ
number_of run conn on = seen_on on (transcript_of run conn).items

-- a POST shows the caller's number, which is then the one posted last
abbrev pub post_made : ConnId → StrNo → Run → Run
post_made by on run =
    let number = number_of run by on in
    shown_to by (shown.Posted on number) (record run { posted = slice_set run.posted on.0 number })

-- a TAKE shows the larger of the caller's number and the one posted last
abbrev pub take_made : ConnId → StrNo → Run → Run
take_made by on run = shown_to by (shown.Took on (max (number_of run by on) (slice_index run.posted on.0))) run

-- ---- calls

-- a run, and what its caller asks next
pub record Progress : Type 0 where
  pub run : Run
  pub now : Step

-- told: what the links of each structure tell, by its number from 0
module _ (limit : ℕ) (told : ℕ → CfId → Telling) where
  -- a call is numbered, answered and journalled at once, behind the marks of the links that it found down, and its
  -- caller is shown the number; a full journal takes no call
  abbrev pub call_made : StrForm → ConnId → StrNo → Step → AnyAsk → AnyHistory → Run → Progress
  call_made form by on now asked entries run =
      if nat_le limit (any_length entries)
      then record { run = stopped_at by on run; now = step.Rest }
      else record {
        run = shown_to by (shown.Call on (any_length (any_next form (told on.0) entries by asked)))
            (record run { histories = slice_set run.histories on.0 (any_next form (told on.0) entries by asked) });
        now = step_after now (any_told form (told on.0) entries by asked);
      }

  abbrev pub ask_made : StrForm → ConnId → StrNo → Step → Option AnyAsk → Option AnyHistory → Run → Progress
  ask_made form by on now None entries run = record { run = run; now = step.Rest }
  ask_made form by on now (Some asked) None run = record { run = run; now = step.Rest }
  ask_made form by on now (Some asked) (Some entries) run = call_made form by on now asked entries run

  -- what a step asks
  abbrev pub step_made : StrForm → Option AnyAsk → ConnId → StrNo → Step → Run → Progress
  step_made form line by on now run = ask_made form by on now (asked_by form.kind line now)
      (slice_get run.histories on.0) run

  -- a step and the steps behind it, so many at most
  abbrev pub steps_made : ℕ → StrForm → Option AnyAsk → ConnId → StrNo → Step → Run → Run
  steps_made zero form line by on now run = run
  steps_made (suc most) form line by on now run =
      let made = step_made form line by on now run in steps_made most form line by on made.now made.run

  abbrev pub all_steps_made : StrForm → Option AnyAsk → ConnId → StrNo → Step → Run → Run
  all_steps_made form line by on now run = steps_made (most_asks now) form line by on now run

  -- ---- lines

  abbrev pub act_made : StrForm → Line → Act → Run → Run
  act_made form line (act.Call asked) run =
      all_steps_made form (Some asked) line.by line.on (step.Call line.retry) run
  act_made form line act.Events run = all_steps_made form None line.by line.on (first_step act.Events line.retry) run
  act_made form line (act.Test index) run =
      with_shown line.by (slice_get run.histories line.on.0) (test_shown form line.on index line.by) run
  act_made form line (act.TestWord word) run =
      with_shown line.by (slice_get run.histories line.on.0) (word_shown form line.on word line.by) run
  act_made form line act.Post run = post_made line.by line.on run
  act_made form line act.Take run = take_made line.by line.on run

  abbrev pub line_made : Option StrForm → Line → Run → Run
  line_made None line run = run
  line_made (Some form) line run = if is_done run line.by then act_made form line line.act run else run

  abbrev pub after_line : Script → Run → Line → Run
  after_line script run line = line_made (slice_get script.structures line.on.0) line run

  -- ---- closings

  abbrev pub run_departed : ConnId → StrNo → StrForm → Option AnyHistory → Run → Run
  run_departed conn on form None run = run
  run_departed conn on form (Some entries) run =
      if is_linked (own_calls (any_calls entries) conn)
      then all_steps_made form (Some (shell_ask form.kind cmd.Disconnect)) conn on (step.Call 0) run
      else run

  -- a connector departs from a structure at which it is active
  abbrev pub after_departure : ConnId → Run → ℕ × StrForm → Run
  after_departure conn run place =
      let on : StrNo = record { 0 = place.0 } in
      if is_done run conn then run_departed conn on place.1 (slice_get run.histories place.0) run else run

  abbrev pub after_closing : Script → Run → ConnId → Run
  after_closing script run conn = fold (after_departure conn) run (enumerate_from 0 script.structures)

  abbrev pub serial_run : Script → Run
  serial_run script =
      fold (after_closing script) (fold (after_line script) (start script) script.lines) (connectors script)
