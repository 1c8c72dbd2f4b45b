use Rattle.list_core.proofs.Imports.{◌∙◌, leave-content}
use Rattle.list_core.proofs.engine.ListEngineEngine.leave.Goals as goal

pub invariant_of-self : goal.invariant_of-self
invariant_of-self c = record {
  list = c.self.invariant.list;
  caps = c.self.invariant.caps;
  content = rw c.leave.ensures.content (leave-content _ _ _ c.args.conn c.args.keep c.self.invariant.content);
  pool = c.leave.ensures.elements ∙ c.self.invariant.pool;
  vector = c.leave.ensures.vector ∙ c.self.invariant.vector;
}
