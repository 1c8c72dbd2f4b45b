use Rattle.cache_core.proofs.Imports.{arith}
use Rattle.cache_core.proofs.engine.CacheEngineEngine.count.Goals as goal

pub overflow_cast-result : goal.overflow_cast-result
overflow_cast-result c = grind arith
