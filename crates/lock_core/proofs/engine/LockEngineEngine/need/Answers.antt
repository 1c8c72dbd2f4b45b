use Rattle.lock_core.proofs.Imports.{◌∙◌}
use Rattle.lock_core.proofs.EngineLaws.{need-content}
use Rattle.lock_core.proofs.engine.LockEngineEngine.need.Goals as goal

pub returns : goal.returns
returns c = rw (← c.self.view_is) (c.need.ensures ∙ need-content c.self.inside.locks.content)
