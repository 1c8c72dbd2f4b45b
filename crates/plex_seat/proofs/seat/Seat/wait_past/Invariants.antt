use Rattle.plex_seat.proofs.Imports.{◌<◌, ◌≤◌, IsLaterOn, IsSame, pass_of}
use Rattle.plex_seat.proofs.seat.Seat.wait_past.Given as goal

abbrev pub invariant-loop : goal.invariant-loop
invariant-loop g l = record {
  same : IsSame l.fn.self l.self;
  later : IsLaterOn l.fn.self.on l.fn.self.desk l.self.desk;
  missed : 0 < l.counter → (pass_of l.self).sure ≤ l.call;
}
