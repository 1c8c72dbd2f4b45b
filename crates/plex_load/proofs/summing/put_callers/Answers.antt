use Rattle.plex_load.proofs.NumberLaws.{calls_more}
use Rattle.plex_load.proofs.summing.put_callers.Goals as goal

pub loop-caller-preserved : goal.loop-caller-preserved
loop-caller-preserved c = calls_more c.args.histories.now c.loop-caller.caller
    c.args.text.now.items c.loop-caller.text.items _ c.in_ok-put_calls.ensures c.loop-caller.invariant
