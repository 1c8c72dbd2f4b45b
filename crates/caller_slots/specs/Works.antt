-- A caller's work as units, of which each is a line or a departure; and what a transcript shows of them, one after
-- another.
use Rattle.std.specs.Prelude.{◌≡◌, ◌⊎◌, ℕ, ◌+◌, ◌≤◌, ◌==◌, if◌then◌else◌, MatchBool, true, List, [], ◌∷◌, ◌++◌, map, slice_get, Some}
use Rattle.run_shown.specs.CfTypes.declared.forms.Kind.{Kind}
use Rattle.run_shown.specs.CfTypes.declared.forms.StrForm.{StrForm}
use Rattle.run_shown.specs.CfTypes.declared.numbers.ConnId.{ConnId}
use Rattle.run_shown.specs.CfTypes.declared.numbers.StrNo.{StrNo}
use Rattle.run_shown.specs.CfTypes.declared.shell_commands.ShellCmd.TheVariants as cmd
use Rattle.run_shown.specs.PlexScript.declared.agents.Step.TheVariants as step
use Rattle.run_shown.specs.PlexScript.declared.asks.AnyHistory.{AnyHistory}
use Rattle.run_shown.specs.PlexScript.declared.scripts.Line.{Line}
use Rattle.run_shown.specs.PlexScript.declared.scripts.Script.{Script}
use Rattle.run_shown.specs.PlexScript.declared.transcripts.Shown.{Shown}
use Rattle.run_shown.specs.PlexScript.Agent.{shell_ask}
use Rattle.run_shown.specs.PlexScript.Heard.{calls_on}
use Rattle.run_shown.specs.PlexScript.Follows.{Runs, ShowsAct, AgreesWith, is_linked_by, lines_of}

-- a unit of a caller's work: a line, or the departure from a structure of this kind
pub data Work : Type 0 where
  Does : Line → Work
  Leaves : Kind → StrNo → Work

-- the structure at which it is done
abbrev pub work_on : Work → StrNo
work_on (Does line) = line.on
work_on (Leaves kind on) = on

-- the departures from structures of these forms, of which the first has this number
abbrev pub leaves_from : ℕ → List StrForm → List Work
leaves_from on [] = []
leaves_from on (form ∷ forms) = Leaves form.kind (record { 0 = on }) ∷ leaves_from (on + 1) forms

-- all of a caller's work: its lines, and then the departures of a connector
abbrev pub works_of : Script → ConnId → List Work
works_of script conn =
    map Does (lines_of script conn) ++ (if conn.0 == 0 then [] else leaves_from 0 script.structures)

-- ---- what is shown of it

module _ (forms : List StrForm) (histories : List AnyHistory) (conn : ConnId) where
  -- the items of one work, behind the items before it
  abbrev pub ShowsWork : Work → List Shown → List Shown → Type 0
  ShowsWork (Does line) before items =
      (form : StrForm) × (slice_get forms line.on.0 ≡ Some form)
      × ShowsAct form (calls_on histories line.on) line.by line.on line.retry line.act items
  ShowsWork (Leaves kind on) before items =
      MatchBool (is_linked_by (calls_on histories on) conn on before)
      (Runs kind (Some (shell_ask kind cmd.Disconnect)) (calls_on histories on) conn on (step.Call 0) items)
      (items ≡ [])

  -- works, one after another
  abbrev pub ShowsWorks : List Work → List Shown → List Shown → Type 0
  ShowsWorks [] before items = items ≡ []
  ShowsWorks (work ∷ works) before items =
      (first : List Shown) × ((others : List Shown) × (items ≡ first ++ others) × ShowsWork work before first
      × ShowsWorks works (before ++ first) others)

-- a transcript follows the script: its items are, in order, what the caller's works give
pub record FollowsWorks (script : Script) (histories : List AnyHistory) (conn : ConnId) (items : List Shown)
    : Type 0 where
  pub shows : ShowsWorks script.structures histories conn (works_of script conn) [] items
  pub agrees : AgreesWith histories conn items
