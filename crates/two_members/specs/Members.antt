-- The members at work: the structure that they share, a member's desk, and what is left of their work.
use Rattle.std.specs.Prelude.{◌≡◌, ℕ, ◌<◌, ◌≤◌, List, [], ◌∷◌, ◌++◌, slice_get, Option, Some}
use Rattle.plex_board.specs.CfTypes.declared.forms.StrForm.{StrForm}
use Rattle.plex_board.specs.CfTypes.declared.numbers.ConnId.{ConnId}
use Rattle.plex_board.specs.CfTypes.declared.numbers.StrNo.{StrNo}
use Rattle.plex_board.specs.CfTypes.Forms.{IsConnector}
use Rattle.plex_board.specs.PlexScript.declared.asks.AnyHistory.{AnyHistory}
use Rattle.plex_board.specs.PlexScript.declared.scripts.Script.{Script}
use Rattle.plex_board.specs.VecWords.declared.logged.Sight.{Sight}
use Rattle.plex_board.specs.VecWords.declared.logged.Tested.{Tested}
use Rattle.plex_board.specs.Types.{OfCache}
use Rattle.plex_board.specs.RunShown.Kinds.{IsAnyLegal}
use Rattle.plex_board.specs.declared.any_reply.AnyReply.{AnyReply}
use Rattle.plex_board.specs.Passes.{Replied, reply_numbered}
use Rattle.plex_board.specs.Cells.{CellShown, IsAnyTold, own_replies}
use Rattle.plex_board.specs.Desks.{DeskShown, pass_at}
use Rattle.plex_board.specs.Boards.{BoardShown, IsDeskOf, cell_on}
use Rattle.two_members.specs.declared.seen.Seen.{Seen}

-- the first structure of the policy
abbrev pub gbp : StrNo
gbp = record { 0 = 0 }

-- it is there, a cache with a bit in each vector
pub record HasPool {L : Type 0} (board : BoardShown L) : Type 0 where
  pub cell : CellShown L
  pub there : cell_on board gbp ≡ Some cell
  pub cache : cell.str_type ≡ OfCache
  pub vector : 0 < cell.words.len

-- a connector's desk
pub record IsMember {L : Type 0} (board : BoardShown L) (desk : DeskShown) : Type 0 where
  pub pool : HasPool board
  pub of_board : IsDeskOf board desk
  pub connector : IsConnector desk.owner

-- the desk is still the same connector's
pub record Stays {L : Type 0} (board : BoardShown L) (before after : DeskShown) : Type 0 where
  pub of_board : IsDeskOf board after
  pub owner : after.owner ≡ before.owner

-- the replies to the member's calls, and the one to its call of this number
abbrev pub replies_at : DeskShown → List Replied
replies_at desk = (pass_at desk gbp).replies

-- the number of a call of the pool that the member has seen complete
abbrev pub sure_at : DeskShown → ℕ
sure_at desk = (pass_at desk gbp).sure

abbrev pub HasRead : DeskShown → ℕ → Option AnyReply → Type 0
HasRead desk number reply = reply ≡ reply_numbered number (replies_at desk)

-- a test of the bit that tells of the copy, by one who had seen so much complete
abbrev pub sight_of : Tested → ℕ → Sight
sight_of tested sure = record { index = 0; bit = tested.bit; at = tested.at; sure = sure }

-- the last test at the desk was answered so, when so much was seen complete
pub record HasTested (desk : DeskShown) (tested : Tested) (sure : ℕ) : Type 0 where
  pub before : List Sight
  pub tests : (pass_at desk gbp).tests ≡ before ++ sight_of tested sure ∷ []

-- the reader, the second connector
abbrev pub reader : ConnId
reader = record { 0 = 2 }

-- The history of the first structure is one that a single thread could have made, and the reader's reply is the one that
-- it has for the reader's call of that number. The reader had seen that call complete when it tested, and the test told
-- the bit as it stood at a number of the history that isn't before what the reader had seen complete: behind the call of
-- that number or, where the reader hadn't seen that call complete, before it.
pub record IsOutcome (script : Script) (histories : List AnyHistory) (seen : Seen) : Type 0 where
  pub form : StrForm
  pub entries : AnyHistory
  pub form_is : slice_get script.structures 0 ≡ Some form
  pub history_is : slice_get histories 0 ≡ Some entries
  pub legal : IsAnyLegal form entries
  pub read : seen.reply ≡ reply_numbered seen.no (own_replies entries reader)
  pub answered : seen.no ≤ seen.sure
  pub told : IsAnyTold form entries reader (sight_of seen.tested seen.sure)
