use Rattle.plex_board.proofs.Imports.{sym, ap, fixed_of}
use Rattle.plex_board.proofs.PlaceLaws.{place-is, changed-of_board}
use Rattle.plex_board.proofs.board.Board.take.Goals as goal

pub take-requires-after_bounds : goal.take-requires-after_bounds
take-requires-after_bounds g c κs within = (place-is c.args.on c.self.view_is c.desk.view_is c.requires.desk
    c.requires.place c.from.ensures c.from-2.ensures c.index.ensures c.index_mut.ensures.value).of_cell

pub returns-clause-of_board : goal.returns-clause-of_board
returns-clause-of_board g c = changed-of_board c.args.self.now c.args.desk.now
    _ _ _ _ (sym c.desk.view_is) c.requires.desk c.index_mut.ensures.value (ap fixed_of c.take.ensures.later.same)
