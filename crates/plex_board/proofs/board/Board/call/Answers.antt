use Rattle.plex_board.proofs.Imports.{arith, sym}
use Rattle.plex_board.proofs.PlaceLaws.{place-is, cell-is, cell-some, changed-of_board, changed-at, full-on, still-on, answered-on, call-fixed}
use Rattle.plex_board.proofs.board.Board.call.Goals as goal

pub call-requires-clause-place : goal.call-requires-clause-place
call-requires-clause-place g c κs within = (place-is c.args.on c.self.view_is c.desk.view_is c.requires.desk
    c.requires.place c.from.ensures c.from-2.ensures c.index.ensures c.index_mut.ensures.value).of_cell

pub call-requires-clause-ask : goal.call-requires-clause-ask
call-requires-clause-ask g c κs within = grind (arith, cell-some, cell-is)

pub call-requires-clause-may : goal.call-requires-clause-may
call-requires-clause-may g c κs within =
    rw (place-is c.args.on c.self.view_is c.desk.view_is c.requires.desk c.requires.place c.from.ensures
    c.from-2.ensures c.index.ensures c.index_mut.ensures.value).owner_is c.requires.may

pub returns-clause-answered : goal.returns-clause-answered
returns-clause-answered g c = grind (arith, answered-on, place-is)

pub returns-clause-full : goal.returns-clause-full
returns-clause-full g c = grind (arith, full-on, cell-is, changed-at)

pub returns-clause-no_memory : goal.returns-clause-no_memory
returns-clause-no_memory g c = still-on c.args.desk.now _ _
    _ c.call.new.place (sym c.desk.view_is) c.index_mut.ensures.value c.call.result c.call.ensures.no_memory

pub returns-clause-of_board : goal.returns-clause-of_board
returns-clause-of_board g c = grind (arith, changed-of_board, call-fixed)
