use Rattle.block_judge.proofs.Cases.{too_many}
use Rattle.block_judge.proofs.block.block_fits.Goals as goal

pub returns-in_default-clause-judged : goal.returns-in_default-clause-judged
returns-in_default-clause-judged g c = too_many g.E.Engine.meaning c.args.machine.now.form c.args.machine.now.machine
    c.args.count c.args.entry.now c.args.ask.now c.requires.asks c.args.machine.now.machine c.args.marks.now
    c.in_default.len_at_least
