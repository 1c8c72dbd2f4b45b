use Rattle.lock_core.proofs.Imports.{ap, ◌∙◌, is_lock, Held, content-placed, Content, IsContent, lock_meaning, lock-fronts}
use Rattle.lock_core.proofs.EngineLaws.{placed-next, kept_either, ok_weaker}
use Rattle.lock_core.proofs.engine.LockEngineEngine.place.Goals as goal

pub invariant_of-self : goal.invariant_of-self
invariant_of-self c =
    let e = c.self.inside in
    let next = rw (← c.self.view_is) at c.requires.next in
    let placed = placed-next next.at e.locks.content next.whole c.args.item next.others next.content next.first in
    let fits = rw (← c.self.view_is) at c.requires.fits in
    let is = content-placed lock_meaning is_lock (λ shape caps content. IsContent caps content) lock-fronts e.shape
    e.locks.content c.args.item next e.caps c.self.invariant.lock fits in
    let kept = kept_either e.caps c.place.result e.locks.content c.place.new.self.content c.args.item
    (ok_weaker c.place.result (λ h. h ∙ placed) c.place.ensures.ok) c.place.ensures.err c.place.ensures.few
    is c.self.invariant.content c.self.invariant.counted in
    record {
      lock = c.self.invariant.lock;
      caps = c.self.invariant.caps;
      limit = c.place.ensures.limit ∙ c.self.invariant.limit;
      content = kept.0;
      counted = kept.1;
    }

pub returns-clause-ok : goal.returns-clause-ok
returns-clause-ok c =
    let e = c.self.inside in
    let next = rw (← c.self.view_is) at c.requires.next in
    let placed = placed-next next.at e.locks.content next.whole c.args.item next.others next.content next.first in
    let held : Content → Held Content = λ (k : Content). record {
      shape = e.shape;
      base = e.caps;
      caps = e.caps;
      state = k;
    } in
    rw (← c.self.view_is) (ok_weaker c.place.result (λ h. ap held (h ∙ placed)) c.place.ensures.ok)
