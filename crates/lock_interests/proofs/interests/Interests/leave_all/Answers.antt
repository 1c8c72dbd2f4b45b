use Rattle.lock_interests.proofs.{JoinLaws.joined-gone, CountLaws.owned-gone, OwnerLaws.left_all}
use Rattle.lock_interests.proofs.interests.Interests.leave_all.Goals as goal

pub returns-clause-interests : goal.returns-clause-interests
returns-clause-interests c = rw (
  ← c.self.view_is,
  c.end_active.ensures.owners,
  c.set_retained_of.ensures.owners,
  c.drop_conn.ensures.records,
  left_all c.args.conn c.self.inside.owners.owners c.self.inside.records.records,
) (joined-gone c.args.conn c.self.inside.owners.owners c.self.inside.records.records)

pub invariant_of-self : goal.invariant_of-self
invariant_of-self c = rw (
  c.end_active.ensures.owners,
  c.set_retained_of.ensures.owners,
  c.drop_conn.ensures.records,
  left_all c.args.conn c.self.inside.owners.owners c.self.inside.records.records,
) (owned-gone c.args.conn c.self.inside.owners.owners c.self.inside.records.records c.self.invariant)
