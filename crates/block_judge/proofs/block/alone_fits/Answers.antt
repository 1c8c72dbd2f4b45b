use Rattle.block_judge.proofs.Cases.{alone_answered}
use Rattle.block_judge.proofs.block.alone_fits.Goals as goal

pub returns-clause-judged : goal.returns-clause-judged
returns-clause-judged g c = alone_answered g.E.Engine.meaning c.args.machine.now.form c.args.machine.now.machine
    c.args.count c.args.entry.now c.args.ask.now c.requires.asks c.call_fits.new.machine.machine c.call_fits.result
    c.call_fits.ensures.fits c.call_fits.ensures.left
