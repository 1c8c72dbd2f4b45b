use Rattle.caller_check.specs.Tables.{rows_of}
use Rattle.caller_check.proofs.WholeLaws.{have_queues_in, item_bad, item_good}
use Rattle.caller_check.proofs.first.first_bad_item.Goals as goal

pub first_wrong-requires-clause-queues : goal.first_wrong-requires-clause-queues
first_wrong-requires-clause-queues c = have_queues_in c.args.script.now c.args.printed.now c.requires.formed
    c.requires.printed c.args.conn c.requires.known c.items_of-items.result.now c.items_of-items.ensures
    (rows_of c.args.tables.now) c.requires.answered c.items-structures.result.now c.items-structures.ensures
    c.items-histories.result.now c.items-histories.ensures

pub returns-clause-good : goal.returns-clause-good
returns-clause-good c = item_good c.args.script.now c.args.printed.now c.requires.formed c.requires.printed c.args.conn
    c.requires.known c.items_of-items.result.now c.items_of-items.ensures c.requires.legal
    c.items-structures.result.now c.items-structures.ensures c.items-histories.result.now c.items-histories.ensures
    c.in_ok-walked.walked c.in_ok-walked.ensures c.in_ok-right.right c.in_ok-right.ensures c.first_bad.result
    c.first_bad.ensures

pub returns-clause-bad : goal.returns-clause-bad
returns-clause-bad c = item_bad c.args.script.now c.args.printed.now c.requires.formed c.requires.printed c.args.conn
    c.requires.known c.items_of-items.result.now c.items_of-items.ensures c.requires.legal
    c.items-structures.result.now c.items-structures.ensures c.items-histories.result.now c.items-histories.ensures
    c.in_ok-walked.walked c.in_ok-walked.ensures c.in_ok-right.right c.in_ok-right.ensures c.first_bad.result
    c.first_bad.ensures
