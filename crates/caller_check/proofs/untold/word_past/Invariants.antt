-- The bits before this one are passed.
use Rattle.std.proofs.Common.{◌≡◌}
use Rattle.caller_check.specs.Untold.{word_past}
use Rattle.caller_check.proofs.UntoldLaws.{behind}
use Rattle.caller_check.proofs.untold.word_past.Given as goal

abbrev pub invariant-loop-k : goal.invariant-loop-k
invariant-loop-k l = behind l.vector l.word l.value l.waits l.many l.k l.next
    ≡ word_past l.vector l.word l.value l.waits 0 l.many l.place
