use Rattle.plex_load.proofs.Imports.{◌≡◌, sum_by, take, any_length}
use Rattle.plex_load.proofs.counts.entries.Given as goal

abbrev pub invariant-loop-history : goal.invariant-loop-history
invariant-loop-history l = l.count ≡ sum_by any_length (take l.history-index l.histories)
