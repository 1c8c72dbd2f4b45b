use Rattle.plex_seat.proofs.Imports.{◌≡◌}
use Rattle.plex_seat.proofs.PlexLaws.{AreFrom}
use Rattle.plex_seat.proofs.plex.are_all.Given as goal

abbrev pub invariant-loop-desk : goal.invariant-loop-desk
invariant-loop-desk l = record {
  next : l.next ≡ l.desk-index;
  all : AreFrom l.desk-index l.desks → AreFrom 0 l.desks;
}
