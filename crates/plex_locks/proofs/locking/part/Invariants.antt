use Rattle.plex_locks.proofs.Imports.{◌≡◌, ◌++◌, map, into_iter_items, told_of}
use Rattle.plex_locks.proofs.locking.part.Given as goal

-- with the workers that are left they are all
abbrev pub invariant-loop-worker : goal.invariant-loop-worker
invariant-loop-worker l = record {
  hands : l.hands.items ++ map (λ worker. worker.hand) (into_iter_items l.worker-iterator)
      ≡ map (λ worker. worker.hand) (into_iter_items l.initial.worker-iterator);
  told : l.told.items ++ map told_of (into_iter_items l.worker-iterator)
      ≡ map told_of (into_iter_items l.initial.worker-iterator);
}
