use Rattle.std.proofs.Common.{◌≡◌}
use Rattle.plex_board.specs.VecWords.Logged.{count_of}
use Rattle.thread_tests.proofs.tests.words.make_calls.Given as goal

abbrev pub invariant-loop-made : goal.invariant-loop-made
invariant-loop-made g l = (l.seat.table ≡ l.vectors) × (l.pass.table ≡ l.vectors) × (l.seat.number ≡ 0) ×
    (count_of l.seat.log ≡ l.made)
