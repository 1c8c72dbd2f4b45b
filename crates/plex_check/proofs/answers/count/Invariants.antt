-- What is counted, with what is left, is all.
use Rattle.std.proofs.Common.{◌≡◌, ◌+◌, drop, sum_by}
use Rattle.check_model.specs.RunShown.PlexScript.Heard.{any_length}
use Rattle.plex_check.proofs.answers.count.Given as goal

abbrev pub invariant-loop-history : goal.invariant-loop-history
invariant-loop-history l =
    l.so_far + sum_by any_length (drop l.history-index l.histories) ≡ sum_by any_length l.histories
