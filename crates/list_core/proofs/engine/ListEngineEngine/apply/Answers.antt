use Rattle.list_core.proofs.Imports.{refl, gains_none}
use Rattle.list_core.proofs.engine.ListEngineEngine.apply.Goals as goal

pub returns-in-Err-clause-bits : goal.returns-in-Err-clause-bits
returns-in-Err-clause-bits c = rw (← c.self.view_is) (gains_none _ _ _ (λ conn index. refl))
