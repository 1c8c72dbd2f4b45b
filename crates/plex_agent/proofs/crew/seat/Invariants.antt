use Rattle.plex_agent.proofs.Imports.{◌≡◌, ◌+◌, ◌≤◌, ◌++◌, map, length, vec_len, vec_capacity, into_iter_items, idle_worker}
use Rattle.plex_agent.proofs.crew.seat.Given as goal

abbrev pub invariant-loop-desk : goal.invariant-loop-desk
invariant-loop-desk l = record {
  workers : l.workers.items ++ map idle_worker (into_iter_items l.desk-iterator)
      ≡ map idle_worker (into_iter_items l.initial.desk-iterator);
  room : vec_len l.workers + length (into_iter_items l.desk-iterator) ≤ vec_capacity l.workers;
  all : vec_len l.workers + length (into_iter_items l.desk-iterator) ≤ l.callers;
}
