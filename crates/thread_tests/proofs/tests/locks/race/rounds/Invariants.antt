use Rattle.thread_tests.specs.Two.{IsHandOf}
use Rattle.thread_tests.proofs.tests.locks.race.rounds.Given as goal

-- the hand stays what it is
abbrev pub invariant-loop-round : goal.invariant-loop-round
invariant-loop-round g l = IsHandOf l.locks l.fn.hand.number l.hand
