use Rattle.thread_tests.specs.Seats.{IsSeat}
use Rattle.thread_tests.proofs.tests.races.write_again.Given as goal

abbrev pub invariant-loop-made : goal.invariant-loop-made
invariant-loop-made g l = IsSeat l.board l.desk
