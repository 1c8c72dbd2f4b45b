use Rattle.cache_core.proofs.Imports.{arith, ◌≡◌, sym, subst, ◌∙◌, Content, IsContent, content_without_last, content-without_last, content_of}
use Rattle.cache_core.proofs.NextLaws.{unplaced}
use Rattle.cache_core.specs.EngineView.{bound_of}
use Rattle.cache_core.proofs.engine.CacheEngineEngine.unplace.Goals as goal

left : (c : goal.After-pop) → record {
  rows = c.pop.new.self.rows;
  regs = c.self.inside.regs.regs;
} ≡ content_without_last (content_of c.self.inside)
left c = grind (arith, unplaced)

pub invariant_of-self : goal.invariant_of-self
invariant_of-self c = record {
  cache = c.self.invariant.cache;
  base = c.self.invariant.base;
  within = c.self.invariant.within;
  content = subst (λ (content : Content). IsContent (bound_of c.self.inside.base) content) (sym (left c))
      (content-without_last (bound_of c.self.inside.base) (content_of c.self.inside) c.self.invariant.content);
  vector = c.self.invariant.vector;
  places = c.pop.ensures.entries ∙ c.self.invariant.places;
  elements = c.pop.ensures.elements ∙ c.self.invariant.elements;
}

pub returns : goal.returns
returns c = grind (arith, left)
