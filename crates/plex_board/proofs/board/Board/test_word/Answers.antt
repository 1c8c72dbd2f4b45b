use Rattle.plex_board.proofs.Imports.{arith}
use Rattle.plex_board.proofs.PlaceLaws.{place-is, cell-is, cell-some, changed-of_board}
use Rattle.plex_board.proofs.board.Board.test_word.Goals as goal

pub test_word-requires-clause-place : goal.test_word-requires-clause-place
test_word-requires-clause-place g c κs within = (place-is c.args.on c.self.view_is c.desk.view_is c.requires.desk
    c.requires.place c.from.ensures c.from-2.ensures c.index.ensures c.index_mut.ensures.value).of_cell

pub test_word-requires-clause-caller : goal.test_word-requires-clause-caller
test_word-requires-clause-caller g c κs within =
    rw (place-is c.args.on c.self.view_is c.desk.view_is c.requires.desk c.requires.place c.from.ensures
    c.from-2.ensures c.index.ensures c.index_mut.ensures.value).owner_is c.requires.caller

pub test_word-requires-clause-word : goal.test_word-requires-clause-word
test_word-requires-clause-word g c κs within = grind (arith, cell-some, cell-is)

pub returns-clause-of_board : goal.returns-clause-of_board
returns-clause-of_board g c = grind (arith, changed-of_board)
