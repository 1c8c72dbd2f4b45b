use Rattle.cache_reclaim.proofs.Imports.{arith}
use Rattle.cache_reclaim.proofs.PlaceLaws.{names_moved, names_all}
use Rattle.cache_reclaim.proofs.slots.push_names.Goals as goal

pub loop-used-init : goal.loop-used-init
loop-used-init c = grind arith

pub loop-used-preserved : goal.loop-used-preserved
loop-used-preserved c =
    names_moved _ _ _ _ _ _ c.in-Some.ensures.steps c.in_ok-push_name.ensures c.loop-used.invariant

pub returns : goal.returns
returns c = names_all _ _ _ c.in-None.ensures.steps.0 c.loop-used.invariant
