use Rattle.caller_walk.proofs.WorkLaws.{AreUsedBelow}
use Rattle.caller_walk.proofs.works.are_used.Given as goal

abbrev pub invariant-loop-place : goal.invariant-loop-place
invariant-loop-place l = AreUsedBelow l.conn l.histories l.spots l.place
