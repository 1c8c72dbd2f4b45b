-- What the closed board says of the structure, of its links, and of the reader's last test.
use Rattle.failover.proofs.OutcomeLaws.{outcome}
use Rattle.failover.proofs.fail_over.Goals as goal

pub returns : goal.returns
returns g c = outcome c.in_ok-board.board c.args.script.now
    c.close-histories.result.0.items c.work-tested.new.desks.items c.close-histories.result.1.items
    c.in_ok-tested.tested c.in_ok-board.ensures.forms c.in_ok-board.ensures.down c.work-tested.ensures.seated
    c.close-histories.ensures.histories c.close-histories.ensures.links c.in_ok-tested.ensures.tested
