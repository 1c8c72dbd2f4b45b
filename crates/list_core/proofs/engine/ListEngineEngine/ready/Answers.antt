use Rattle.list_core.proofs.Imports.{new-alone}
use Rattle.list_core.proofs.engine.ListEngineEngine.ready.Goals as goal

pub make_plan-requires-clause-alone : goal.make_plan-requires-clause-alone
make_plan-requires-clause-alone c = new-alone _ _ _ c.self.invariant.content
