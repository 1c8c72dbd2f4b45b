use Rattle.cache_core.proofs.Imports.{arith}
use Rattle.cache_core.proofs.engine.CacheEngineEngine.need.Goals as goal

pub overflow_cast-result : goal.overflow_cast-result
overflow_cast-result c = grind arith

pub elements-requires : goal.elements-requires
elements-requires c = grind arith
