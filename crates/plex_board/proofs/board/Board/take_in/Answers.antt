use Rattle.plex_board.proofs.Imports.{sym, ap, ◌∙◌, fixed_of}
use Rattle.plex_board.proofs.PlaceLaws.{place-is, cell-is, changed-of_board, noted-fixed}
use Rattle.plex_board.proofs.TrayLaws.{slot-is, tray-same}
use Rattle.plex_board.proofs.board.Board.take_in.Goals as goal

pub take_in-requires-clause-place : goal.take_in-requires-clause-place
take_in-requires-clause-place g c κs within = (place-is c.args.on c.self.view_is c.desk.view_is c.requires.desk
    c.requires.place c.from.ensures c.from-2.ensures c.index.ensures c.index_mut.ensures.value).of_cell

pub take_in-requires-clause-slot : goal.take_in-requires-clause-slot
take_in-requires-clause-slot g c κs within = slot-is c.args.self.now c.args.tray.now c.args.on c.index.result.now
    c.requires.tray (cell-is c.args.self.now _ c.args.on _ _ (sym c.self.view_is) c.requires.place c.from.ensures
    c.index.ensures) _ (sym c.tray.view_is) _ c.index_mut-2.result.now c.from-3.ensures c.index_mut-2.ensures.value

pub returns-clause-tray : goal.returns-clause-tray
returns-clause-tray g c = tray-same _ _ c.args.on _ (sym c.tray.view_is) c.from-3.ensures
    c.index_mut-2.result.now c.take_in.new.slot c.index_mut-2.ensures.value c.take_in.ensures.slot

pub returns-clause-of_board : goal.returns-clause-of_board
returns-clause-of_board g c = changed-of_board c.args.self.now c.args.desk.now _ _ _ _ (sym c.desk.view_is)
    c.requires.desk c.index_mut.ensures.value (ap fixed_of c.take_in.ensures.place ∙ noted-fixed _ _)
