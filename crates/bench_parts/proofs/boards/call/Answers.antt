use Rattle.bench_parts.proofs.SeatLaws.{call-owner, pool-asked, still-seated}
use Rattle.bench_parts.proofs.boards.call.Goals as goal

pub call-requires-clause-ask : goal.call-requires-clause-ask
call-requires-clause-ask g c κs within = pool-asked c.args.board.now c.args.ask c.requires.seated.board_is

pub returns : goal.returns
returns g c =
    still-seated c.args.board.now c.args.desk.now c.call.new.desk c.requires.seated (call-owner c.call.result
    _ c.args.desk.now c.call.new.desk c.call.ensures.answered c.call.ensures.refused) c.call.ensures.of_board
