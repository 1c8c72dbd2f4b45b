use Rattle.cache_regs.proofs.Imports.{sym}
use Rattle.cache_regs.proofs.EndLaws.{ended_taken, ended_absent}
use Rattle.cache_regs.proofs.ends.end_at.Goals as goal

pub returns-then-take-clause-ended : goal.returns-then-take-clause-ended
returns-then-take-clause-ended c = ended_taken c.args.conn c.args.index _ _ _ _ _ _ c.take.ensures.regs
    c.if-take.ensures.len (sym c.if-take.ensures.found) c.push.ensures.items c.push.ensures.room

pub returns-else-take-clause-ended : goal.returns-else-take-clause-ended
returns-else-take-clause-ended c = ended_absent _ _ _ _ _ _ c.take.ensures.regs (sym c.if-take.ensures.found)
