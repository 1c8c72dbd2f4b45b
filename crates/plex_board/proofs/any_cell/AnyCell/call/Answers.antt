use Rattle.plex_board.proofs.Imports.{ap, refl, pass_shown, OfCache, OfList, OfLock, AnyAsk, AnyReply}
use Rattle.plex_board.proofs.CallLaws.{told_answered}
use Rattle.plex_board.proofs.any_cell.AnyCell.call.Goals as goal

pub returns-in-Cache-Cache-Cache-clause-answered : goal.returns-in-Cache-Cache-Cache-clause-answered
returns-in-Cache-Cache-Cache-clause-answered g c = told_answered OfCache AnyAsk.Cache AnyReply.Cache _ _ _ _ _ _ _
    c.in-Cache-Cache-Cache.is-2 (ap pass_shown c.in-Cache-Cache-Cache.is-1) refl c.call.ensures.answered

pub returns-in-List-List-List-clause-answered : goal.returns-in-List-List-List-clause-answered
returns-in-List-List-List-clause-answered g c = told_answered OfList AnyAsk.List AnyReply.List _ _ _ _ _ _ _
    c.in-List-List-List.is-2 (ap pass_shown c.in-List-List-List.is-1) refl c.call-in-List-List-List.ensures.answered

pub returns-in-Lock-Lock-Lock-clause-answered : goal.returns-in-Lock-Lock-Lock-clause-answered
returns-in-Lock-Lock-Lock-clause-answered g c = told_answered OfLock AnyAsk.Lock AnyReply.Lock _ _ _ _ _ _ _
    c.in-Lock-Lock-Lock.is-2 (ap pass_shown c.in-Lock-Lock-Lock.is-1) refl c.call-in-Lock-Lock-Lock.ensures.answered
