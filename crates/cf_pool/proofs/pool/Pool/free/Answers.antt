use Rattle.cf_pool.proofs.Imports.{◌≡◌, ◌+◌, subst, sum_by, length, need_at}
use Rattle.cf_pool.proofs.PoolLaws.{all_chains}
use Rattle.cf_pool.proofs.pool.Pool.free.Goals as goal

pub returns-clause-all : goal.returns-clause-all
returns-clause-all c = subst (λ v. sum_by need_at v.chains + v.free ≡ length v.chains) c.self.view_is
    (all_chains _ _ _ _ _ c.self.invariant)
