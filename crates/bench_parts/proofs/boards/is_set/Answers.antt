use Rattle.bench_parts.proofs.Imports.{ap, DeskShown}
use Rattle.bench_parts.proofs.SeatLaws.{pool-within, still-seated}
use Rattle.bench_parts.proofs.boards.is_set.Goals as goal

pub test-requires-clause-index : goal.test-requires-clause-index
test-requires-clause-index c κs =
    pool-within c.args.board.now c.args.index c.requires.seated.board_is c.requires.index

pub returns : goal.returns
returns c = still-seated c.args.board.now c.args.desk.now c.test.new.desk
    c.requires.seated (ap (λ (d : DeskShown). d.owner) c.test.ensures.tested) c.test.ensures.of_board
