use Rattle.cache_reclaim.proofs.Imports.{arith, subst, sym, IsTied}
use Rattle.cache_reclaim.proofs.SlotLaws.{slot_named, slot_there, removed_tied, removed_order, none_order}
use Rattle.cache_reclaim.proofs.slots.remove.Goals as goal

pub returns-in-Some-clause-tied : goal.returns-in-Some-clause-tied
returns-in-Some-clause-tied c = subst (λ n. IsTied c.release.new.slots.entries c.swap_remove.new.self.entries n)
    (sym c.release.ensures.cap) (removed_tied _ _ _ c.requires.tied c.args.name.now _ (slot_named _ _ _
    c.requires.tied c.args.name.now _ (sym c.in-Some.ensures.value)) (slot_there _ _ _ c.requires.tied c.args.name.now
    _ (sym c.in-Some.ensures.value)) _ _ c.release.ensures.unique c.release.ensures.entries (grind arith))

pub returns-in-Some-clause-order : goal.returns-in-Some-clause-order
returns-in-Some-clause-order c = removed_order c.args.slots.now.entries _ _ c.requires.tied c.args.name.now
    _ (slot_named _ _ _ c.requires.tied c.args.name.now _ (sym c.in-Some.ensures.value)) _ c.release.ensures.entries

pub returns-in_default-clause-order : goal.returns-in_default-clause-order
returns-in_default-clause-order c = none_order c.args.slots.now.entries _ _ c.args.name.now c.requires.tied
    (sym c.in_default.ensures.value)

pub release-requires : goal.release-requires
release-requires c = slot_there _ _ _ c.requires.tied c.args.name.now _ (sym c.in-Some.ensures.value)
