use Rattle.caller_check.proofs.FirstLaws.{first_wrong}
use Rattle.caller_check.proofs.first.first_wrong.Goals as goal

pub returns : goal.returns
returns c = first_wrong c.args.structures.now c.args.histories.now c.args.conn c.args.items.now c.in_ok-ordered.ordered
    c.in_ok-told.told c.requires.many c.requires.known c.in_ok-ordered.ensures c.in_ok-told.ensures
