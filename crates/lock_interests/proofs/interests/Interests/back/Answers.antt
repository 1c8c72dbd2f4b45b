use Rattle.lock_interests.proofs.Imports.{subst, sym, AreOwned}
use Rattle.lock_interests.proofs.{CountLaws.owned-retained}
use Rattle.lock_interests.proofs.interests.Interests.back.Goals as goal

pub invariant_of-self : goal.invariant_of-self
invariant_of-self c = subst (λ owners. AreOwned owners c.self.inside.records.records)
    (sym c.set_retained_of.ensures.owners) (owned-retained _ _ _ c.self.inside.records.records c.self.invariant)
