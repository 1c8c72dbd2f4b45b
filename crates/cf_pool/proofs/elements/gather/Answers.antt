use Rattle.cf_pool.proofs.Imports.{◌≡◌, ◌-◌, suc, arith}
use Rattle.cf_pool.proofs.WalkLaws.{walked_more, within-step}
use Rattle.cf_pool.proofs.elements.gather.Goals as goal

pub loop-left-preserved : goal.loop-left-preserved
loop-left-preserved c =
    let one : c.loop-left.left ≡ suc (c.loop-left.left - 1) = omega arith in
    let more = walked_more _ _ _ _ _ _ _ _ _ _ c.loop-left.invariant.few (omega (arith, c.len.ensures))
    c.loop-left.invariant.bytes one c.in_ok-append.ensures.whole c.in_ok-append.ensures.put in
    record {
      few = more.0;
      bytes = more.1;
      within = (within-step _ _ _ _ one c.loop-left.invariant.within).1;
    }
