use Rattle.thread_tests.specs.Seats.{IsSeat}
use Rattle.thread_tests.proofs.tests.races.read_again.Given as goal

abbrev pub invariant-loop : goal.invariant-loop
invariant-loop g l = IsSeat l.board l.desk
