use Rattle.std.proofs.Common.{◌≡◌, ◌<◌}
use Rattle.thread_tests.proofs.tests.words.test_words.Given as goal

abbrev pub invariant-loop : goal.invariant-loop
invariant-loop g l = (l.pass.table ≡ l.vectors) × (0 < l.pass.owner)
