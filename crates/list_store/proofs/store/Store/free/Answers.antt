use Rattle.list_store.proofs.StoreLaws.{all_elements}
use Rattle.list_store.proofs.store.Store.free.Goals as goal

pub returns-clause-all : goal.returns-clause-all
returns-clause-all c = rw (← c.self.view_is) (all_elements c.self.inside.pool.chains
    c.self.inside.table.lists c.self.invariant.held c.self.inside.pool.free _ c.free.ensures.all)
