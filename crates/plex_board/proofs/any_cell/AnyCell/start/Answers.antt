use Rattle.plex_board.proofs.Imports.{ap, AnyAsk, AnyReply, OfList, type_of_kind}
use Rattle.plex_board.proofs.ShownLaws.{new_shown}
use Rattle.plex_board.proofs.any_cell.AnyCell.start.Goals as goal

pub returns-in_ok-cell-in-List-clause-passes : goal.returns-in_ok-cell-in-List-clause-passes
returns-in_ok-cell-in-List-clause-passes g c = new_shown OfList AnyAsk.List AnyReply.List _ _ _ _
    c.in_ok-cell-in-List.ensures.passes (ap type_of_kind c.in-List.is)
