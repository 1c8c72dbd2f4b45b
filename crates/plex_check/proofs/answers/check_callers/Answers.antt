use Rattle.std.proofs.Common.{rules}
use Rattle.plex_check.proofs.CheckLaws.{good_more, yes_fits}
use Rattle.plex_check.proofs.answers.check_callers.Goals as goal

pub loop-number-preserved : goal.loop-number-preserved
loop-number-preserved c = good_more c.args.script.now c.args.printed.now c.loop-number.number c.loop-number.invariant
    (c.in_ok-item.ensures.good c.in-None.is)

pub returns : goal.returns
returns c = yes_fits c.args.script.now c.args.printed.now c.requires.printed c.requires.legal c.loop-number.number
    c.loop-number.invariant (search rules) c.items-2.result.now c.items-2.ensures c.yes.result c.yes.ensures
