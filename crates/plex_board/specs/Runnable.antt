-- The scripts whose run is built: each line of theirs has a command that is built.
use Rattle.std.specs.Prelude.{◌≡◌, ◌≤◌, length, slice_get, Some, All}
use Rattle.plex_script.specs.CfTypes.declared.limits.TheConstants.{STRUCTURES, CONNECTORS}
use Rattle.plex_script.specs.CfTypes.declared.forms.StrForm.{StrForm}
use Rattle.plex_script.specs.CfTypes.declared.numbers.ConnId.{ConnId}
use Rattle.plex_script.specs.CfTypes.Forms.{IsForm, IsConnector}
use Rattle.plex_script.specs.declared.scripts.Act.{Act}
use Rattle.plex_script.specs.declared.scripts.Act.TheVariants as act
use Rattle.plex_script.specs.declared.scripts.Line.{Line}
use Rattle.plex_script.specs.declared.scripts.Script.{Script}
use Rattle.run_shown.specs.Kinds.{IsAskOf, MayAskAny}

-- the act is built, and one for a structure of this form; the operator has no vector to test
abbrev pub IsRunnableAct : StrForm → ConnId → Act → Type 0
IsRunnableAct form by (act.Call asked) = IsAskOf form.kind asked × MayAskAny by asked
IsRunnableAct form by act.Events = Unit {0}
IsRunnableAct form by (act.Test index) = IsConnector by
IsRunnableAct form by (act.TestWord word) = IsConnector by
IsRunnableAct form by act.Post = Unit {0}
IsRunnableAct form by act.Take = Unit {0}

pub record IsRunnableLine (script : Script) (line : Line) : Type 0 where
  pub form : StrForm
  pub known : slice_get script.structures line.on.0 ≡ Some form
  pub caller : line.by.0 ≤ length script.connectors
  pub act : IsRunnableAct form line.by line.act

pub record IsRunnable (script : Script) : Type 0 where
  pub structures : length script.structures ≤ STRUCTURES
  pub connectors : length script.connectors ≤ CONNECTORS
  pub forms : All IsForm script.structures
  pub lines : All (IsRunnableLine script) script.lines
