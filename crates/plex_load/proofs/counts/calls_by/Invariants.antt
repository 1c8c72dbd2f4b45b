use Rattle.plex_load.proofs.Imports.{◌≡◌, take, calls_by}
use Rattle.plex_load.proofs.counts.calls_by.Given as goal

abbrev pub invariant-loop-history : goal.invariant-loop-history
invariant-loop-history l = l.count ≡ calls_by l.conn (take l.history-index l.histories)
