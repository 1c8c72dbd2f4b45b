use Rattle.thread_tests.specs.Seats.{IsSeat}
use Rattle.thread_tests.proofs.tests.full.fill.Given as goal

abbrev pub invariant-loop-answered : goal.invariant-loop-answered
invariant-loop-answered g l = IsSeat l.board l.desk
