-- The desk is the caller's, and stays so whatever the call is answered.
use Rattle.std.proofs.Common.{sym, ap, subst}
use Rattle.plex_board.specs.CfTypes.declared.numbers.ConnId.{ConnId}
use Rattle.plex_board.specs.{EngineApi.Asking.MayAsk, Desks.DeskShown}
use Rattle.failover.proofs.SeatLaws.{seat_is, still_seated}
use Rattle.failover.proofs.members.call.Goals as goal

pub call-requires-clause-may : goal.call-requires-clause-may
call-requires-clause-may g c κs within = subst (λ (owner : ConnId). MayAsk owner c.args.ask)
    (sym (seat_is c.args.board.now c.args.desks.now.items c.requires.seated c.args.who c.from.result
    c.index_mut-desk.result.now c.requires.who c.from.ensures c.index_mut-desk.ensures.value)) c.requires.ask

pub returns-in_err-call : goal.returns-in_err-call
returns-in_err-call g c = still_seated c.args.board.now c.args.desks.now.items c.requires.seated
    c.from.result c.index_mut-desk.result.now c.call.new.desk c.index_mut-desk.ensures.value
    (ap (λ (d : DeskShown). d.owner) c.in_err-call.ensures.refused.rest) c.call.ensures.of_board
