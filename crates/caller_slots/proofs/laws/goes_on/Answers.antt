use Rattle.caller_slots.proofs.EndLaws.{goes_on}
use Rattle.caller_slots.proofs.laws.goes_on.Goals as goal

pub returns : goal.returns
returns c = goes_on c.args.script.now c.args.histories.now c.args.conn c.requires.structures c.requires.known
    c.requires.rising c.requires.legal c.requires.ends c.requires.used c.args.items.now c.requires.asked
    c.requires.fills c.requires.notes c.requires.tests
