use Rattle.std.proofs.Common.{rules, sym, ◌∙◌}
use Rattle.caller_check.proofs.UntoldLaws.{bit_more}
use Rattle.caller_check.proofs.untold.word_past.Goals as goal

pub loop-k-preserved : goal.loop-k-preserved
loop-k-preserved c = bit_more c.args.vector c.args.word c.args.value c.args.waits.now c.args.many c.loop-k.k c.loop-k.next _
    c.loop-k.invariant (search rules) c.in-Some.behind (sym c.in-Some.is ∙ c.bit_past.ensures)
