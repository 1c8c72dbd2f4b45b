-- The members at work: the structure that they share, and their desks.
use Rattle.std.specs.Prelude.{◌≡◌, ℕ, ◌+◌, ◌<◌, List, [], ◌∷◌, ◌++◌, map, slice_get, Some, All}
use Rattle.std.specs.List.{range_with_len}
use Rattle.plex_board.specs.CfTypes.declared.numbers.StrNo.{StrNo}
use Rattle.plex_board.specs.VecWords.declared.logged.Sight.{Sight}
use Rattle.plex_board.specs.VecWords.declared.logged.Tested.{Tested}
use Rattle.plex_board.specs.Types.{OfCache}
use Rattle.plex_board.specs.Cells.{CellShown}
use Rattle.plex_board.specs.Desks.{DeskShown, pass_at}
use Rattle.plex_board.specs.Boards.{BoardShown, IsDeskOf, cell_on}

-- the first structure of the policy
abbrev pub gbp : StrNo
gbp = record { 0 = 0 }

-- it is there, a cache with a bit in each vector
pub record HasPool {L : Type 0} (board : BoardShown L) : Type 0 where
  pub cell : CellShown L
  pub there : cell_on board gbp ≡ Some cell
  pub cache : cell.str_type ≡ OfCache
  pub vector : 0 < cell.words.len

abbrev pub owner_of : DeskShown → ℕ
owner_of desk = desk.owner.0

-- the desks of the operator and of two members at such a board
pub record AreSeated {L : Type 0} (board : BoardShown L) (desks : List DeskShown) : Type 0 where
  pub pool : HasPool board
  pub two : board.callers ≡ 2
  pub of_board : All (IsDeskOf board) desks
  pub owners : map owner_of desks ≡ range_with_len 0 (board.callers + 1)

-- a test of the bit that tells of the copy, by one who had seen so much complete
abbrev pub sight_of : Tested → ℕ → Sight
sight_of tested sure = record { index = 0; bit = tested.bit; at = tested.at; sure = sure }

-- the last test at the second member's desk was answered so
pub record HasTested (desks : List DeskShown) (tested : Tested) : Type 0 where
  pub desk : DeskShown
  pub sure : ℕ
  pub before : List Sight
  pub there : slice_get desks 2 ≡ Some desk
  pub tests : (pass_at desk gbp).tests ≡ before ++ sight_of tested sure ∷ []
