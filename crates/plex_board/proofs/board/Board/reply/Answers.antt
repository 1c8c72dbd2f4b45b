use Rattle.plex_board.proofs.Imports.{sym, ap, fixed_of}
use Rattle.plex_board.proofs.PlaceLaws.{place-is, changed-of_board, unread-on}
use Rattle.plex_board.proofs.board.Board.reply.Goals as goal

pub reply-requires-clause-place : goal.reply-requires-clause-place
reply-requires-clause-place g c κs within = (place-is c.args.on c.self.view_is c.desk.view_is c.requires.desk
    c.requires.place c.from.ensures c.from-2.ensures c.index.ensures c.index_mut.ensures.value).of_cell

pub returns-clause-reply : goal.returns-clause-reply
returns-clause-reply g c = rw (place-is c.args.on c.self.view_is c.desk.view_is c.requires.desk c.requires.place
    c.from.ensures c.from-2.ensures c.index.ensures c.index_mut.ensures.value).pass_is c.reply.ensures.reply

pub returns-clause-own : goal.returns-clause-own
returns-clause-own g c = rw (place-is c.args.on c.self.view_is c.desk.view_is c.requires.desk c.requires.place
    c.from.ensures c.from-2.ensures c.index.ensures c.index_mut.ensures.value).pass_is c.reply.ensures.own

pub returns-clause-no_memory : goal.returns-clause-no_memory
returns-clause-no_memory g c = unread-on c.args.desk.now _ _
    _ c.reply.new.place (sym c.desk.view_is) c.index_mut.ensures.value c.reply.result c.reply.ensures.no_memory

pub returns-clause-of_board : goal.returns-clause-of_board
returns-clause-of_board g c = changed-of_board c.args.self.now c.args.desk.now
    _ _ _ _ (sym c.desk.view_is) c.requires.desk c.index_mut.ensures.value (ap fixed_of c.reply.ensures.later.same)
