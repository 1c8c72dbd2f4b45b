use Rattle.lock_interests.proofs.CountLaws.{counted-with}
use Rattle.lock_interests.proofs.interests.Interests.count_records_with.Goals as goal

pub returns-clause-count : goal.returns-clause-count
returns-clause-count c = rw (← c.self.view_is, c.count_others.ensures.count, c.records_of.ensures)
    (counted-with _ _ _ _ c.len.ensures.owners c.count_others.ensures.records c.self.invariant)
