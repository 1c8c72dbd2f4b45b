use Rattle.bench_parts.proofs.SeatLaws.{first-left, last-seated}
use Rattle.bench_parts.proofs.boards.last_desk.Goals as goal

pub returns-clause-desk : goal.returns-clause-desk
returns-clause-desk c = last-seated c.args.board.now c.args.desks.now.items
    c.pop.new.self.items c.pop.result c.requires.board c.requires.desks c.pop.ensures.items

pub returns-clause-rest : goal.returns-clause-rest
returns-clause-rest c = first-left
    c.args.board.now c.args.desks.now.items c.pop.new.self.items c.pop.result c.requires.desks c.pop.ensures.items
