-- What holds of each script: its forms are forms, and each line is one of a caller of the script at a structure of
-- the script.
use Rattle.std.specs.Prelude.{◌≡◌, ◌≤◌, IsTrue, length, slice_get, Some, All}
use Rattle.cf_types.specs.declared.limits.TheConstants.{STRUCTURES, CONNECTORS, RETRIES}
use Rattle.cf_types.specs.declared.forms.Kind.{Kind}
use Rattle.cf_types.specs.declared.forms.StrForm.{StrForm}
use Rattle.cf_types.specs.declared.numbers.ConnId.{ConnId}
use Rattle.cf_types.specs.Forms.{IsForm, IsConnector}
use Rattle.engine_api.specs.Asking.{MayAsk}
use Rattle.plex_script.specs.declared.scripts.AnyAsk.{AnyAsk}
use Rattle.plex_script.specs.declared.scripts.AnyAsk.TheVariants as ask
use Rattle.plex_script.specs.declared.scripts.Act.{Act}
use Rattle.plex_script.specs.declared.scripts.Act.TheVariants as act
use Rattle.plex_script.specs.declared.scripts.Line.{Line}
use Rattle.plex_script.specs.declared.scripts.Script.{Script}
use Rattle.plex_script.specs.LineWords.{is_ask_of}

-- the caller may ask this
abbrev pub MayAskAny : ConnId → AnyAsk → Type 0
MayAskAny by (ask.Cache asked) = MayAsk by asked
MayAskAny by (ask.List asked) = MayAsk by asked
MayAskAny by (ask.Lock asked) = MayAsk by asked

-- a call is one of a structure of the kind that its caller may ask; the operator only calls
abbrev pub IsActOf : Kind → ConnId → Act → Type 0
IsActOf kind by (act.Call asked) = IsTrue (is_ask_of kind asked) × MayAskAny by asked
IsActOf kind by act.Events = IsConnector by
IsActOf kind by (act.Test index) = IsConnector by
IsActOf kind by (act.TestWord word) = IsConnector by
IsActOf kind by act.Post = IsConnector by
IsActOf kind by act.Take = IsConnector by

pub record IsLineOf (script : Script) (line : Line) : Type 0 where
  pub form : StrForm
  pub known : slice_get script.structures line.on.0 ≡ Some form
  pub caller : line.by.0 ≤ length script.connectors
  pub act : IsActOf form.kind line.by line.act
  pub retry : line.retry ≤ RETRIES

-- as many structures and connectors as there may be at most
pub record IsWellFormed (script : Script) : Type 0 where
  pub structures : length script.structures ≤ STRUCTURES
  pub connectors : length script.connectors ≤ CONNECTORS
  pub forms : All IsForm script.structures
  pub lines : All (IsLineOf script) script.lines
