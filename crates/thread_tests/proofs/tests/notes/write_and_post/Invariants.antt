use Rattle.thread_tests.specs.Seats.{IsSeat}
use Rattle.thread_tests.proofs.tests.notes.write_and_post.Given as goal

abbrev pub invariant-loop-round : goal.invariant-loop-round
invariant-loop-round g l = IsSeat l.board l.desk
