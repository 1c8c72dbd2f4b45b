use Rattle.lock_core.proofs.Imports.{arith, ◌∙◌, back-content}
use Rattle.lock_core.proofs.EngineLaws.{counted-returned}
use Rattle.lock_core.proofs.engine.LockEngineEngine.back.Goals as goal

pub invariant_of-self : goal.invariant_of-self
invariant_of-self c = record {
  lock = c.self.invariant.lock;
  caps = c.self.invariant.caps;
  limit = c.back.ensures.limit ∙ c.self.invariant.limit;
  content = rw c.back.ensures.content (back-content _ _ c.args.conn c.self.invariant.content);
  counted = grind (arith, counted-returned);
}
