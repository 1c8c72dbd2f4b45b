use Rattle.bench_parts.proofs.SeatLaws.{first-operated}
use Rattle.bench_parts.proofs.boards.operator_desk.Goals as goal

pub returns : goal.returns
returns c = first-operated c.args.board.now c.args.desks.items
    c.pop.new.self.items c.pop.result c.requires.board c.requires.desks c.pop.ensures.items
