use Rattle.plex_load.proofs.Imports.{◌≡◌, sum_by, take, refusals_of}
use Rattle.plex_load.proofs.counts.refused.Given as goal

abbrev pub invariant-loop-history : goal.invariant-loop-history
invariant-loop-history l = l.count ≡ sum_by refusals_of (take l.history-index l.histories)
