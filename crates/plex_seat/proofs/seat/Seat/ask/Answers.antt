-- A call that was made has a reply.
use Rattle.plex_seat.proofs.SeatLaws.{no_reply}
use Rattle.plex_seat.proofs.seat.Seat.ask.Goals as goal

pub unreachable-requires : goal.unreachable-requires
unreachable-requires g c =
    no_reply c.self.inside.board.now c.self.inside.on c.args.ask c.in-Ok.told c.self.inside.desk c.call.new.desk
    c.self.invariant c.in-Ok.ensures.answered c.in-Ok-None.field-0 c.in-Ok-None.field-0-is c.in-Ok-None.ensures.own
