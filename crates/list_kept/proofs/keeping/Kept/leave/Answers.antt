use Rattle.list_kept.proofs.Imports.{arith, ◌≡◌, true, list_all, is_told}
use Rattle.list_kept.proofs.ToldLaws.{told-filter, gains-told}
use Rattle.list_kept.proofs.keeping.Kept.leave.Goals as goal

still_told : (c : goal.After-drop_conn) → list_all (is_told c.self.inside.store.lists) c.drop_conn.new.self.rows ≡
    true
still_told c = grind (arith, told-filter)

pub invariant_of-self : goal.invariant_of-self
invariant_of-self c = grind (arith, still_told)

pub returns-clause-bits : goal.returns-clause-bits
returns-clause-bits c = rw (← c.self.view_is)
    (gains-told _ _ _ _ _ _ c.self.invariant.told (still_told c) c.drop_conn.ensures.bits)
