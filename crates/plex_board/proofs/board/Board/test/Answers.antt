use Rattle.plex_board.proofs.Imports.{arith}
use Rattle.plex_board.proofs.PlaceLaws.{place-is, cell-is, cell-some, changed-of_board}
use Rattle.plex_board.proofs.board.Board.test.Goals as goal

pub test-requires-clause-place : goal.test-requires-clause-place
test-requires-clause-place g c κs within = (place-is c.args.on c.self.view_is c.desk.view_is c.requires.desk
    c.requires.place c.from.ensures c.from-2.ensures c.index.ensures c.index_mut.ensures.value).of_cell

pub test-requires-clause-caller : goal.test-requires-clause-caller
test-requires-clause-caller g c κs within =
    rw (place-is c.args.on c.self.view_is c.desk.view_is c.requires.desk c.requires.place c.from.ensures
    c.from-2.ensures c.index.ensures c.index_mut.ensures.value).owner_is c.requires.caller

pub test-requires-clause-index : goal.test-requires-clause-index
test-requires-clause-index g c κs within = grind (arith, cell-some, cell-is)

pub returns-clause-of_board : goal.returns-clause-of_board
returns-clause-of_board g c = grind (arith, changed-of_board)
