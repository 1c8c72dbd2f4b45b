use Rattle.cache_reclaim.proofs.Imports.{arith, sym, subst, ◌∙◌, append-nil, ◌<◌, length}
use Rattle.cache_reclaim.proofs.SlotLaws.{seam_moved, copy_missing, copy_place, copy_whole}
use Rattle.cache_reclaim.proofs.slots.copied.Goals as goal

pub loop-slot-init : goal.loop-slot-init
loop-slot-init c = grind (arith, append-nil)

pub add-requires-clause-missing : goal.add-requires-clause-missing
add-requires-clause-missing c =
    copy_missing _ _ _ _ _ c.in-Some.ensures.steps c.loop-slot.invariant.seam c.requires.unique

pub add-requires-clause-place : goal.add-requires-clause-place
add-requires-clause-place c = subst (λ n. length c.loop-slot.copy.entries < n) (sym c.loop-slot.invariant.cap)
    (copy_place _ _ _ _ _ _ c.in-Some.ensures.steps c.loop-slot.invariant.seam c.requires.full)

pub loop-slot-preserved : goal.loop-slot-preserved
loop-slot-preserved c = record {
  seam = seam_moved _ _ _ _ _ _ c.in-Some.ensures.steps c.in_ok-add.ensures.entries c.loop-slot.invariant.seam;
  cap = c.in_ok-add.ensures.cap ∙ c.loop-slot.invariant.cap;
}

pub returns-clause-entries : goal.returns-clause-entries
returns-clause-entries c = copy_whole _ _ _ c.in-None.ensures.steps.0 c.loop-slot.invariant.seam

pub returns-clause-cap : goal.returns-clause-cap
returns-clause-cap c = c.loop-slot.invariant.cap
