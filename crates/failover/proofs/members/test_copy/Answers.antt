-- The desk is the second member's, and its last test is this one.
use Rattle.std.proofs.Common.{arith}
use Rattle.failover.proofs.SeatLaws.{seat_owner, has_tested}
use Rattle.failover.proofs.members.test_copy.Goals as goal

pub test-requires-clause-caller : goal.test-requires-clause-caller
test-requires-clause-caller c κs =
    let place = c.from.ensures in
    let owner = seat_owner c.args.board.now c.args.desks.now.items c.requires c.from.result
    c.index_mut.result.now (omega (arith, place)) c.index_mut.ensures.value in omega (arith, owner, place)

pub returns-clause-tested : goal.returns-clause-tested
returns-clause-tested c =
    has_tested c.args.board.now c.args.desks.now.items c.requires c.from.result c.index_mut.result.now
    c.test.new.desk c.test.result c.from.ensures c.index_mut.ensures.value c.test.ensures.tested
