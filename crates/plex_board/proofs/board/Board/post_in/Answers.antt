use Rattle.plex_board.proofs.Imports.{sym, ap, subst, ◌∙◌, Some, note_of, IsTrayOf}
use Rattle.plex_board.proofs.{PlaceLaws.place-is, TrayLaws.tray-after, TrayLaws.tray-set}
use Rattle.plex_board.proofs.board.Board.post_in.Goals as goal

pub post_in-requires-after_bounds : goal.post_in-requires-after_bounds
post_in-requires-after_bounds g c κs within = (place-is c.args.on c.self.view_is c.desk.view_is c.requires.desk
    c.requires.place c.from.ensures c.from-2.ensures c.index.ensures c.index_mut.ensures.value).of_cell

pub returns-clause-tray : goal.returns-clause-tray
returns-clause-tray g c =
    let is = (place-is c.args.on c.self.view_is c.desk.view_is c.requires.desk c.requires.place c.from.ensures
    c.from-2.ensures c.index.ensures c.index_mut.ensures.value).pass_is in
    tray-after _ _ c.args.on _ (sym c.tray.view_is) c.from-3.ensures c.post_in.new.slot _
    (c.post_in.ensures.slot ∙ ap (λ pass. Some (note_of pass)) (sym is))

pub returns-clause-of_board : goal.returns-clause-of_board
returns-clause-of_board g c =
    let is = place-is c.args.on c.self.view_is c.desk.view_is c.requires.desk c.requires.place c.from.ensures
    c.from-2.ensures c.index.ensures c.index_mut.ensures.value in
    subst (IsTrayOf c.args.self.now) (sym (tray-after _ _ c.args.on _ (sym c.tray.view_is)
    c.from-3.ensures c.post_in.new.slot _ c.post_in.ensures.slot)) (tray-set c.args.self.now c.args.tray.now
    c.args.on c.index.result.now c.requires.tray is.cell_is (note_of c.index_mut.result.now) is.of_cell)
