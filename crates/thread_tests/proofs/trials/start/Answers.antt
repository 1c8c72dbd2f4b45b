use Rattle.thread_tests.proofs.SeatLaws.{new_desks}
use Rattle.thread_tests.proofs.trials.start.Goals as goal

pub take_desk-requires : goal.take_desk-requires
take_desk-requires g c = new_desks c.in-Ok.board c.in-Ok.desks.items _ c.in-Ok.ensures.desks
