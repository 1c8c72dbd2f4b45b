-- The transcripts before this one are right.
use Rattle.check_model.specs.Judged.{AreGoodBelow}
use Rattle.plex_check.proofs.answers.check_callers.Given as goal

abbrev pub invariant-loop-number : goal.invariant-loop-number
invariant-loop-number l = AreGoodBelow l.script l.printed l.number
