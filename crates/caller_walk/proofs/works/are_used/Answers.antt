use Rattle.std.proofs.Common.{refl, sym, rules}
use Rattle.std.proofs.lemmas.Bool.{false≢true}
use Rattle.caller_walk.proofs.WorkLaws.{used_at, used_step}
use Rattle.caller_walk.proofs.works.are_used.Goals as goal

pub returns-then-has_own : goal.returns-then-has_own
returns-then-has_own c = (
  (λ wrong. absurd (false≢true wrong)),
  λ used. sym (c.if-has_own.ensures.1 (used_at c.args.conn c.args.histories.now c.args.spots.now c.loop-place.place
      c.index-histories-place.result _ c.requires (search rules) c.index-histories-place.is used)),
)

pub loop-place-preserved : goal.loop-place-preserved
loop-place-preserved c = used_step c.args.conn c.args.histories.now c.args.spots.now c.loop-place.place
    c.index-histories-place.result _ c.requires (search rules) c.index-histories-place.is (c.if-has_own.ensures.0 refl)
    c.loop-place.invariant
