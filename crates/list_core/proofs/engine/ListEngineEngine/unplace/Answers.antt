use Rattle.list_core.proofs.Imports.{◌∙◌, content-unplace}
use Rattle.list_core.proofs.engine.ListEngineEngine.unplace.Goals as goal

pub invariant_of-self : goal.invariant_of-self
invariant_of-self c = record {
  list = c.self.invariant.list;
  caps = c.self.invariant.caps;
  content = rw c.pop.ensures.content (content-unplace _ _ _ c.self.invariant.content);
  pool = c.pop.ensures.elements ∙ c.self.invariant.pool;
  vector = c.pop.ensures.vector ∙ c.self.invariant.vector;
}
