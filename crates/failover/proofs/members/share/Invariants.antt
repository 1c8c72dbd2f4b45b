use Rattle.failover.specs.Members.{AreSeated}
use Rattle.failover.proofs.members.share.Given as goal

abbrev pub invariant-loop-data : goal.invariant-loop-data
invariant-loop-data g l = AreSeated l.board l.desks.items
