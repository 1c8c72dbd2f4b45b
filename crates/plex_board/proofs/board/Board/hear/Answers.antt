use Rattle.plex_board.proofs.Imports.{sym, ap, fixed_of}
use Rattle.plex_board.proofs.PlaceLaws.{place-is, changed-of_board}
use Rattle.plex_board.proofs.board.Board.hear.Goals as goal

pub hear-requires-clause-place : goal.hear-requires-clause-place
hear-requires-clause-place g c κs within = (place-is c.args.on c.self.view_is c.desk.view_is c.requires.desk
    c.requires.place c.from.ensures c.from-2.ensures c.index.ensures c.index_mut.ensures.value).of_cell

pub hear-requires-clause-from : goal.hear-requires-clause-from
hear-requires-clause-from g c κs within = (place-is c.args.on c.self.view_is c.from-3.view_is c.requires.from
    c.requires.place c.from.ensures c.from-4.ensures c.index.ensures c.index_mut-2.ensures.value).of_cell

pub returns-clause-of_board : goal.returns-clause-of_board
returns-clause-of_board g c = changed-of_board c.args.self.now c.args.desk.now
    _ _ _ _ (sym c.desk.view_is) c.requires.desk c.index_mut.ensures.value (ap fixed_of c.hear.ensures.place)
