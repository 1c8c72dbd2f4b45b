use Rattle.lock_core.proofs.Imports.{◌∙◌, content-without_last}
use Rattle.lock_core.proofs.EngineLaws.{counted-last}
use Rattle.lock_core.proofs.engine.LockEngineEngine.unplace.Goals as goal

pub invariant_of-self : goal.invariant_of-self
invariant_of-self c = record {
  lock = c.self.invariant.lock;
  caps = c.self.invariant.caps;
  limit = c.unplace.ensures.limit ∙ c.self.invariant.limit;
  content = rw c.unplace.ensures.content (content-without_last _ _ c.self.invariant.content);
  counted = rw c.unplace.ensures.content (counted-last _ c.self.invariant.counted);
}
