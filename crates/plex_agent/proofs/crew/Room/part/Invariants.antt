use Rattle.plex_agent.proofs.Imports.{◌≡◌, ◌+◌, ◌≤◌, ◌++◌, map, length, vec_len, vec_capacity, into_iter_items}
use Rattle.plex_agent.proofs.crew.Room.part.Given as goal

abbrev pub invariant-loop-worker : goal.invariant-loop-worker
invariant-loop-worker l = record {
  desks : l.desks.items ++ map (λ worker. worker.desk) (into_iter_items l.worker-iterator)
      ≡ map (λ worker. worker.desk) (into_iter_items l.initial.worker-iterator);
  shown : l.shown.items ++ map (λ worker. worker.shown) (into_iter_items l.worker-iterator)
      ≡ map (λ worker. worker.shown) (into_iter_items l.initial.worker-iterator);
  desk_room : vec_len l.desks + length (into_iter_items l.worker-iterator) ≤ vec_capacity l.desks;
  shown_room : vec_len l.shown + length (into_iter_items l.worker-iterator) ≤ vec_capacity l.shown;
}
