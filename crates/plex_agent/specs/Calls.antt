-- What the calls of a line owe, and what one of them does.
use Rattle.std.specs.Prelude.{◌≡◌, ◌<◌, List, [], ◌∷◌, ◌++◌, Option, Some, IfSome}
use Rattle.plex_board.specs.CfTypes.declared.forms.Kind.{Kind}
use Rattle.plex_board.specs.CfTypes.declared.numbers.ConnId.{ConnId}
use Rattle.plex_board.specs.CfTypes.declared.numbers.StrNo.{StrNo}
use Rattle.plex_board.specs.CfTypes.Forms.{IsCaller}
use Rattle.plex_board.specs.EngineApi.declared.told.Told.{Told}
use Rattle.plex_board.specs.StructCell.declared.refused.CallRefused.{CallRefused}
use Rattle.plex_board.specs.StructCell.declared.refused.CallRefused.TheVariants as refused
use Rattle.plex_board.specs.PlexScript.declared.agents.Step.{Step}
use Rattle.plex_board.specs.PlexScript.declared.scripts.AnyAsk.{AnyAsk}
use Rattle.plex_board.specs.PlexScript.declared.transcripts.AgentEnd.{AgentEnd}
use Rattle.plex_board.specs.PlexScript.declared.transcripts.AgentEnd.TheVariants as ended
use Rattle.plex_board.specs.PlexScript.declared.transcripts.Shown.{Shown}
use Rattle.plex_board.specs.PlexScript.Agent.{step_after, asked_by}
use Rattle.plex_board.specs.RunShown.Kinds.{MayAskAny}
use Rattle.plex_board.specs.declared.any_reply.AnyReply.{AnyReply}
use Rattle.plex_board.specs.Passes.{with_call}
use Rattle.plex_board.specs.Cells.{CellShown, IsAskOf}
use Rattle.plex_board.specs.Desks.{DeskShown, pass_at, with_pass}
use Rattle.plex_board.specs.Turns.{AtWork, call_item}

abbrev pub at_work : DeskShown → List Shown → AgentEnd → AtWork
at_work desk items end = record { desk = desk; shown = record { items = items; end = end } }

-- its caller may ask what the line asks of such a structure, and the common commands of an event round
pub record IsAskable {L : Type 0} (line : Option AnyAsk) (by : ConnId) (cell : CellShown L) : Type 0 where
  pub caller : IsCaller by
  pub call : IfSome line (λ asked. IsAskOf cell asked × MayAskAny by asked)

-- what a step asks was asked, and shown by its number; the step behind it
pub record IsAsked (kind : Kind) (line : Option AnyAsk) (on : StrNo) (now next : Step) (before after : AtWork)
    : Type 0 where
  pub asked : AnyAsk
  pub told : Told
  pub reply : AnyReply
  pub asks : asked_by kind line now ≡ Some asked
  pub later : (pass_at before.desk on).known < told.no
  pub next_is : next ≡ step_after now told
  pub desk : after.desk ≡ with_pass on (with_call asked told reply (pass_at before.desk on)) before.desk
  pub items : after.shown.items ≡ before.shown.items ++ call_item on told ∷ []

-- how a caller's work ends where its call wasn't made
abbrev pub end_of : StrNo → CallRefused → AgentEnd
end_of on (refused.JournalFull limit) = ended.JournalFull on
end_of on (refused.NoMemory cause) = ended.NoMemory cause
