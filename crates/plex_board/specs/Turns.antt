-- What a caller's turn at a structure does to its desk and its transcript: the work of one line of a script, or of
-- its closing.
use Rattle.std.specs.Prelude.{◌≡◌, ◌⊎◌, ℕ, ◌*◌, ◌^◌, ◌≤◌, ◌<◌, nat_lt, Bool, true, false, MatchBool, List, [], ◌∷◌, ◌++◌, map, Option, None, Some}
use Rattle.plex_script.specs.CfTypes.NoMemory.Wants.{want}
use Rattle.plex_script.specs.CfTypes.declared.forms.Kind.{Kind}
use Rattle.plex_script.specs.CfTypes.declared.forms.StrForm.{StrForm}
use Rattle.plex_script.specs.CfTypes.declared.numbers.ConnId.{ConnId}
use Rattle.plex_script.specs.CfTypes.declared.numbers.StrNo.{StrNo}
use Rattle.plex_script.specs.CfTypes.declared.shell_commands.ShellCmd.TheVariants as cmd
use Rattle.plex_script.specs.EngineApi.declared.told.Told.{Told}
use Rattle.plex_script.specs.declared.agents.Step.{Step}
use Rattle.plex_script.specs.declared.agents.Step.TheVariants as step
use Rattle.plex_script.specs.declared.scripts.AnyAsk.{AnyAsk}
use Rattle.plex_script.specs.declared.scripts.Act.{Act}
use Rattle.plex_script.specs.declared.scripts.Act.TheVariants as act
use Rattle.plex_script.specs.declared.scripts.Line.{Line}
use Rattle.plex_script.specs.declared.transcripts.AgentEnd.{AgentEnd}
use Rattle.plex_script.specs.declared.transcripts.AgentEnd.TheVariants as ended
use Rattle.plex_script.specs.declared.transcripts.Shown.{Shown}
use Rattle.plex_script.specs.declared.transcripts.Shown.TheVariants as shown
use Rattle.plex_script.specs.declared.transcripts.Transcript.{Transcript}
use Rattle.plex_script.specs.Agent.{first_step, step_after, asked_by, shell_ask}
use Rattle.plex_script.specs.Heard.{is_linked}
use Rattle.struct_cell.specs.VecWords.Logged.{indices_of, sight}
use Rattle.run_shown.specs.Kinds.{MayAskAny}
use Rattle.plex_board.specs.declared.any_reply.AnyReply.{AnyReply}
use Rattle.plex_board.specs.Passes.{PassShown, with_call}
use Rattle.plex_board.specs.Cells.{CellShown, IsAskOf}
use Rattle.plex_board.specs.Desks.{DeskShown, pass_at, with_pass, IsLaterOn}

-- a caller at work: its desk, and what it was shown
pub record AtWork : Type 0 where
  pub desk : DeskShown
  pub shown : Transcript

-- ---- what may be asked

-- a caller may do this at a structure; the operator has no vector to test
abbrev pub MayAct : {L : Type 0} → CellShown L → ConnId → Act → Type 0
MayAct cell by (act.Call asked) = IsAskOf cell asked × MayAskAny by asked
MayAct cell by act.Events = Unit {0}
MayAct cell by (act.Test index) = 0 < by.0
MayAct cell by (act.TestWord word) = 0 < by.0
MayAct cell by act.Post = Unit {0}
MayAct cell by act.Take = Unit {0}

-- ---- transcripts

abbrev pub is_done_as : AgentEnd → Bool
is_done_as ended.Done = true
is_done_as (ended.JournalFull on) = false
is_done_as (ended.NoMemory cause) = false

abbrev pub with_item : Shown → Transcript → Transcript
with_item item transcript = record transcript { items = transcript.items ++ item ∷ [] }

abbrev pub call_item : StrNo → Told → Shown
call_item on told = shown.Call on told.no

-- ---- calls

-- A caller's steps at a structure, from one step to another, with what it was told of each call: a call asks what its
-- step asks, its number is above all that the pass knew, it has a reply, and the next step goes by what was told of it
abbrev pub Steps : Kind → Option AnyAsk → Step → PassShown → List Told → Step → PassShown → Type 0
Steps kind line now pass [] last after = (last ≡ now) × (after ≡ pass)
Steps kind line now pass (told ∷ tolds) last after =
    (asked : AnyAsk) × (asked_by kind line now ≡ Some asked) × (pass.known < told.no) × (reply : AnyReply)
    × Steps kind line (step_after now told) (with_call asked told reply pass) tolds last after

-- the caller came to a next call, which wasn't made: the desk knows what it knew, or more, and has seen complete no
-- more than it knows
pub record Halts (kind : Kind) (line : Option AnyAsk) (on : StrNo) (last : Step) (before after : DeskShown)
    : Type 0 where
  pub asked : AnyAsk
  pub next : asked_by kind line last ≡ Some asked
  pub later : IsLaterOn on before after
  pub ordered : (pass_at after on).sure ≤ (pass_at after on).known

-- how steps end: nothing is left to ask; or the next call came to a full journal, or found no memory, which leaves the
-- desk as it was
abbrev pub EndsAt : ℕ → Kind → Option AnyAsk → StrNo → Step → DeskShown → DeskShown → AgentEnd → Type 0
EndsAt limit kind line on last before after ended.Done = (last ≡ step.Rest) × (after ≡ before)
EndsAt limit kind line on last before after (ended.JournalFull place) =
    (place ≡ on) × Halts kind line on last before after × (limit ≤ (pass_at after on).known)
EndsAt limit kind line on last before after (ended.NoMemory cause) =
    Halts kind line on last before after × (after ≡ before)

-- the calls of a line, from its first step on
pub record Asks (limit : ℕ) (kind : Kind) (line : Option AnyAsk) (on : StrNo) (first : Step) (before after : AtWork)
    : Type 0 where
  pub tolds : List Told
  pub last : Step
  pub pass : PassShown
  pub steps : Steps kind line first (pass_at before.desk on) tolds last pass
  pub items : after.shown.items ≡ before.shown.items ++ map (call_item on) tolds
  pub ends : EndsAt limit kind line on last (with_pass on pass before.desk) after.desk after.shown.end

-- ---- tests, posts and takes

-- a test of a bit within the vector
pub record Tests (on : StrNo) (index : ℕ) (before after : AtWork) : Type 0 where
  pub bit : Bool
  pub at : ℕ
  pub later : (pass_at before.desk on).known ≤ at
  pub desk : after.desk ≡ (let pass = pass_at before.desk on in with_pass on (record pass {
    known = at;
    tests = pass.tests ++ record { index = index; bit = bit; at = at; sure = pass.sure } ∷ [];
  }) before.desk)
  pub shown : after.shown ≡ with_item (shown.Test on index bit at) before.shown

-- a test of a word within the vector
pub record TestsWord (on : StrNo) (word : ℕ) (before after : AtWork) : Type 0 where
  pub bits : ℕ
  pub at : ℕ
  pub fits : bits < 2 ^ 32
  pub later : (pass_at before.desk on).known ≤ at
  pub desk : after.desk ≡ (let pass = pass_at before.desk on in with_pass on (record pass {
    known = at;
    tests = pass.tests ++ map (sight bits at pass.sure) (indices_of word);
  }) before.desk)
  pub shown : after.shown ≡ with_item (shown.Word on word bits at) before.shown

-- an item is shown, and nothing else happens
abbrev pub ShowsOnly : Shown → AtWork → AtWork → Type 0
ShowsOnly item before after = (after.desk ≡ before.desk) × (after.shown ≡ with_item item before.shown)

-- a look at a bit of the caller's own vector, by its index: a test, or the answer that the vector ends before it
abbrev pub Looks : ℕ → StrNo → ℕ → AtWork → AtWork → Type 0
Looks vector on index before after =
    MatchBool (nat_lt index vector) (Tests on index before after)
    (ShowsOnly (shown.BadIndex on index false vector) before after)

-- the same for a word of 32 bits
abbrev pub LooksAtWord : ℕ → StrNo → ℕ → AtWork → AtWork → Type 0
LooksAtWord vector on word before after =
    MatchBool (nat_lt (32 * word) vector) (TestsWord on word before after)
    (ShowsOnly (shown.BadIndex on word true vector) before after)

-- the number of a call that the caller has seen complete is posted; it knows no less
pub record Posts (on : StrNo) (before after : AtWork) : Type 0 where
  pub known : (pass_at before.desk on).sure ≤ (pass_at before.desk on).known
  pub shows : ShowsOnly (shown.Posted on (pass_at before.desk on).sure) before after

-- the caller is told the note that was posted, if one was
pub record Takes (on : StrNo) (before after : AtWork) : Type 0 where
  pub later : IsLaterOn on before.desk after.desk
  pub known : (pass_at after.desk on).sure ≤ (pass_at after.desk on).known
  pub shown : after.shown ≡ with_item (shown.Took on (pass_at after.desk on).sure) before.shown

-- for want of memory nothing happened
abbrev pub RunsOut : AtWork → AtWork → Type 0
RunsOut before after = (after.desk ≡ before.desk) × (after.shown ≡ record before.shown { end = ended.NoMemory want })

-- ---- one line

abbrev pub Acts : ℕ → StrForm → StrNo → ℕ → Act → AtWork → AtWork → Type 0
Acts limit form on retry (act.Call asked) before after =
    Asks limit form.kind (Some asked) on (step.Call retry) before after
Acts limit form on retry act.Events before after =
    Asks limit form.kind None on (first_step act.Events retry) before after
Acts limit form on retry (act.Test index) before after =
    Looks form.vector on index before after ⊎ RunsOut before after
Acts limit form on retry (act.TestWord word) before after =
    LooksAtWord form.vector on word before after ⊎ RunsOut before after
Acts limit form on retry act.Post before after = Posts on before after ⊎ RunsOut before after
Acts limit form on retry act.Take before after = Takes on before after ⊎ RunsOut before after

-- the caller's work is done already, or this is done
abbrev pub IfDone : AtWork → AtWork → Type 0 → Type 0
IfDone before after acts = MatchBool (is_done_as before.shown.end) acts (after ≡ before)

-- a turn: the work of a line, unless the caller's work ended before
abbrev pub Turns : ℕ → StrForm → Line → AtWork → AtWork → Type 0
Turns limit form line before after =
    IfDone before after (Acts limit form line.on line.retry line.act before after)

-- the departure from a structure at which the connector is active by its own replies
abbrev pub Departs : ℕ → StrForm → StrNo → AtWork → AtWork → Type 0
Departs limit form on before after = IfDone before after
    (MatchBool (is_linked (pass_at before.desk on).calls)
    (Asks limit form.kind (Some (shell_ask form.kind cmd.Disconnect)) on (step.Call 0) before after)
    (after ≡ before))
