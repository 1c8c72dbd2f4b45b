use Rattle.plex_locks.proofs.Imports.{◌≡◌, ◌++◌, drop, map, none_told}
use Rattle.plex_locks.proofs.locking.none_done.Given as goal

-- with the connectors that are left they are all
abbrev pub invariant-loop-name : goal.invariant-loop-name
invariant-loop-name l = l.hands.items ++ map none_told (drop l.name-index l.connectors) ≡ map none_told l.connectors
