use Rattle.plex_board.proofs.Imports.{◌+◌, ◌*◌, ◌≤◌, ◌++◌, List, length, vec_len, vec_capacity, into_iter_items, AnyHistory, AreEachAsked, homes_shown, AreHomes, AreEnded}
use Rattle.plex_board.proofs.ending.end.Given as goal

abbrev pub invariant-loop-station : goal.invariant-loop-station
invariant-loop-station g l = record {
  homes : AreHomes 0 (into_iter_items l.station-iterator) (homes_shown (into_iter_items l.homes));
  ended : (rest : List AnyHistory)
      → AreEnded (into_iter_items l.station-iterator) (homes_shown (into_iter_items l.homes)) rest
      → AreEnded l.fn.stations.items (homes_shown l.fn.rest.homes.items) (l.histories.items ++ rest);
  links : (rest : List AnyHistory) (others : List g.row.L.Denot)
      → AreEachAsked g.L.Link.calls g.L.Link.downs g.L.Link.faults (into_iter_items l.station-iterator)
      rest l.spare.items others → AreEachAsked g.L.Link.calls g.L.Link.downs g.L.Link.faults
      l.fn.stations.items (l.histories.items ++ rest) l.spare.items (l.links.items ++ others);
  history_room : vec_len l.histories + length (into_iter_items l.station-iterator) ≤ vec_capacity l.histories;
  link_room : vec_len l.links + 4 * length (into_iter_items l.station-iterator) + length l.spare.items
      ≤ vec_capacity l.links;
}
