use Rattle.cf_pool.proofs.Imports.{arith}
use Rattle.cf_pool.proofs.PoolLaws.{new_shared, new_chains}
use Rattle.cf_pool.proofs.pool.Pool.new.Goals as goal

pub invariant_of-result : goal.invariant_of-result
invariant_of-result c = grind (arith, new_shared)

pub returns-clause-chains : goal.returns-clause-chains
returns-clause-chains c = new_chains _ _ _ _ c.in_ok-lens.ensures
