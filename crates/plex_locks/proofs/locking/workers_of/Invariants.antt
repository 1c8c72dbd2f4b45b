use Rattle.plex_locks.proofs.Imports.{into_iter_items, IsDealt}
use Rattle.plex_locks.proofs.locking.workers_of.Given as goal

-- with the connectors and the hands that are left they are all
abbrev pub invariant-loop-hand : goal.invariant-loop-hand
invariant-loop-hand l = IsDealt l.connectors l.lines (into_iter_items l.initial.hand-iterator)
    l.place (into_iter_items l.hand-iterator) l.workers.items
