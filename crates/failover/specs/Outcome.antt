-- What is left of the members' work.
use Rattle.std.specs.Prelude.{◌≡◌, ℕ, List, [], ◌∷◌, map, slice_get, Some, IfSome}
use Rattle.plex_board.specs.CfLink.declared.list_link.ListLink.{ListLink}
use Rattle.plex_board.specs.CfLink.Links.{Telling, IsAsTold, calls_after}
use Rattle.plex_board.specs.CfTypes.declared.forms.StrForm.{StrForm}
use Rattle.plex_board.specs.CfTypes.declared.numbers.CfId.{CfId}
use Rattle.plex_board.specs.CfTypes.declared.numbers.ConnId.{ConnId}
use Rattle.plex_board.specs.PlexScript.declared.asks.AnyHistory.{AnyHistory}
use Rattle.plex_board.specs.PlexScript.declared.scripts.Script.{Script}
use Rattle.plex_board.specs.VecWords.declared.logged.Tested.{Tested}
use Rattle.plex_board.specs.RunShown.Kinds.{IsAnyLegal}
use Rattle.plex_board.specs.AnyCalls.{any_answers}
use Rattle.plex_board.specs.Cells.{CellShown, IsAnyTold}
use Rattle.plex_board.specs.Desks.{DeskShown}
use Rattle.plex_board.specs.Boards.{BoardShown, links_of}
use Rattle.failover.specs.Failing.{AreDownOnce}
use Rattle.failover.specs.Members.{AreSeated, sight_of}

-- the second member
abbrev pub reader : ConnId
reader = record { 0 = 2 }

-- the facilities
abbrev pub cf1 : CfId
cf1 = record { 0 = 1 }

abbrev pub cf2 : CfId
cf2 = record { 0 = 2 }

-- what a link tells that wasn't asked yet, and is down at this call alone
abbrev pub down_once : ℕ → Telling
down_once call = record { calls = 0; downs = call ∷ [] }

-- the structures of a policy as they begin, over links of which two are down once, and the desks of their callers
pub record IsOpened (script : Script) (board : BoardShown ListLink) (desks : List DeskShown) : Type 0 where
  pub forms : map (λ (cell : CellShown ListLink). cell.form) board.cells ≡ script.structures
  pub down : AreDownOnce (links_of board)
  pub seated : AreSeated board desks

-- a link was asked as often as there are answers
abbrev pub WasAsked : List ListLink → ℕ → ℕ → Type 0
WasAsked links place times = IfSome (slice_get links place) (λ link. link.calls ≡ times)

-- The history of the first structure is one that a single thread could have made. Where it has that a facility's link
-- was asked, the link to CF1 was down the third time alone, and the one to CF2 the fifth time alone; so often each was
-- asked. And the reader's test told the bit as it stood at that number of the history, which isn't before what the
-- reader had seen complete.
pub record IsOutcome (script : Script) (histories : List AnyHistory) (links : List ListLink) (tested : Tested) : Type 0
  where
    pub form : StrForm
    pub entries : AnyHistory
    pub sure : ℕ
    pub form_is : slice_get script.structures 0 ≡ Some form
    pub history_is : slice_get histories 0 ≡ Some entries
    pub legal : IsAnyLegal form entries
    pub first_down : IsAsTold (down_once 3) (any_answers form entries cf1)
    pub second_down : IsAsTold (down_once 5) (any_answers form entries cf2)
    pub first_asked : WasAsked links 0 (calls_after (any_answers form entries cf1) 0)
    pub second_asked : WasAsked links 1 (calls_after (any_answers form entries cf2) 0)
    pub told : IsAnyTold form entries reader (sight_of tested sure)
