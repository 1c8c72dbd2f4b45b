-- The items before this one are told, and each queue goes on with those behind them.
use Rattle.caller_check.specs.Tables.{rows_of}
use Rattle.caller_check.proofs.UntoldLaws.{AreSoFar}
use Rattle.caller_check.proofs.untold.first_untold.Given as goal

abbrev pub invariant-loop-number : goal.invariant-loop-number
invariant-loop-number l = AreSoFar l.structures l.histories (rows_of l.tables) l.conn l.items l.places.items l.number
