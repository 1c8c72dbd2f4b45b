use Rattle.lock_interests.proofs.Imports.{true}
use Rattle.lock_interests.proofs.{JoinLaws.joined-kept, CountLaws.owned-kept, OwnerLaws.left_recorded}
use Rattle.lock_interests.proofs.interests.Interests.leave_recorded.Goals as goal

pub returns-clause-interests : goal.returns-clause-interests
returns-clause-interests c = rw (
  ← c.self.view_is,
  c.end_active.ensures.owners,
  c.retain_recorded.ensures.owners,
  c.set_retained_of.ensures.owners,
  left_recorded c.args.conn c.self.inside.owners.owners c.self.inside.records.records
      c.self.inside.records.entries c.retain_recorded.ensures.alike,
) (joined-kept c.args.conn true c.self.inside.owners.owners c.self.inside.records.records)

pub invariant_of-self : goal.invariant_of-self
invariant_of-self c = rw (
  c.end_active.ensures.owners,
  c.retain_recorded.ensures.owners,
  c.set_retained_of.ensures.owners,
  left_recorded c.args.conn c.self.inside.owners.owners c.self.inside.records.records
      c.self.inside.records.entries c.retain_recorded.ensures.alike,
) (owned-kept c.args.conn c.self.inside.owners.owners c.self.inside.records.records c.self.invariant)
