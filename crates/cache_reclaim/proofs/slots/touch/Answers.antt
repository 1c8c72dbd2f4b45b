use Rattle.cache_reclaim.proofs.Imports.{subst, sym, IsTied}
use Rattle.cache_reclaim.proofs.SlotLaws.{touched_tied, touched_order}
use Rattle.cache_reclaim.proofs.slots.touch.Goals as goal

pub returns-clause-tied : goal.returns-clause-tied
returns-clause-tied c =
    subst (λ n. IsTied c.write.new.slots.entries c.slot_for-slot.new.names.entries n) (sym c.write.ensures.cap)
    (touched_tied _ _ _ c.requires.tied c.args.name _ c.slot_for-slot.ensures.apart c.slot_for-slot.ensures.there _ _
    c.write.ensures.unique c.args.stg c.write.ensures.entries c.slot_for-slot.ensures.writes)

pub returns-clause-order : goal.returns-clause-order
returns-clause-order c = touched_order c.args.slots.now.entries
    _ _ c.requires.tied c.args.name _ c.slot_for-slot.ensures.apart _ c.args.stg c.write.ensures.entries
