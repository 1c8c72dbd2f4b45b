use Rattle.plex_board.proofs.PlaceLaws.{place-is}
use Rattle.plex_board.proofs.board.Board.post.Goals as goal

pub post-requires-after_bounds : goal.post-requires-after_bounds
post-requires-after_bounds g c κs within = (place-is c.args.on c.self.view_is c.desk.view_is c.requires.desk
    c.requires.place c.from.ensures c.from-2.ensures c.index.ensures c.index_mut.ensures.value).of_cell
