use Rattle.list_kept.proofs.Imports.{arith, ◌≡◌, true, list_all, is_told}
use Rattle.list_kept.proofs.ToldLaws.{told-with, gains-told}
use Rattle.list_kept.proofs.keeping.Kept.monitor.Goals as goal

still_told : (c : goal.After-set) → list_all (is_told c.self.inside.store.lists) c.set.new.self.rows ≡ true
still_told c = grind (arith, told-with)

pub invariant_of-self : goal.invariant_of-self
invariant_of-self c = grind (arith, still_told)

pub returns-clause-bits : goal.returns-clause-bits
returns-clause-bits c = rw (← c.self.view_is)
    (gains-told _ _ _ _ _ _ c.self.invariant.told (still_told c) c.set.ensures.bits)
