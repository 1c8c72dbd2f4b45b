use Rattle.cache_reclaim.proofs.MapLaws.{copy_moved, copy_absent, copy_all}
use Rattle.cache_reclaim.proofs.slots.copied_names.Goals as goal

pub lead_new-requires : goal.lead_new-requires
lead_new-requires c =
    copy_absent _ _ _ _ _ c.in-Some.ensures.steps c.loop-name.invariant c.iter-name-items.ensures.unique

pub loop-name-preserved : goal.loop-name-preserved
loop-name-preserved c = copy_moved _ _ _ _ _ _ c.in-Some.ensures.steps c.in_ok-lead_new.ensures c.loop-name.invariant

pub returns : goal.returns
returns c = copy_all _ _ _ c.in-None.ensures.steps.0 c.loop-name.invariant
