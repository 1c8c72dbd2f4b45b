-- What is left of a member's work once the structures are closed.
use Rattle.std.specs.Prelude.{◌≡◌, List, slice_get, Some}
use Rattle.plex_board.specs.CfTypes.declared.forms.StrForm.{StrForm}
use Rattle.plex_board.specs.CfTypes.declared.numbers.ConnId.{ConnId}
use Rattle.plex_board.specs.CfTypes.declared.numbers.StrNo.{StrNo}
use Rattle.plex_board.specs.PlexScript.declared.asks.AnyHistory.{AnyHistory}
use Rattle.plex_board.specs.PlexScript.declared.scripts.Script.{Script}
use Rattle.plex_board.specs.RunShown.Kinds.{IsAnyLegal}
use Rattle.plex_board.specs.Passes.{reply_numbered}
use Rattle.plex_board.specs.Cells.{own_replies}
use Rattle.plex_seat.specs.declared.answers.Answer.{Answer}

-- A structure's history is one that a single thread could have made, and the answer is the one that it has for the
-- caller's call of that number.
pub record IsAnswerOf (script : Script) (histories : List AnyHistory) (on : StrNo) (caller : ConnId) (answer : Answer) :
    Type 0 where
  pub form : StrForm
  pub entries : AnyHistory
  pub form_is : slice_get script.structures on.0 ≡ Some form
  pub history_is : slice_get histories on.0 ≡ Some entries
  pub legal : IsAnyLegal form entries
  pub reply : Some answer.reply ≡ reply_numbered answer.no (own_replies entries caller)
