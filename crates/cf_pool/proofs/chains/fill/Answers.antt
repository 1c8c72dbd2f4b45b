use Rattle.cf_pool.proofs.Imports.{arith}
use Rattle.cf_pool.proofs.PoolLaws.{free_within, fill_first, fill_shared, fill_chains, fill_fresh, fill_stored}
use Rattle.cf_pool.proofs.chains.fill.Goals as goal

pub store-rest-requires-clause-within : goal.store-rest-requires-clause-within
store-rest-requires-clause-within c =
    free_within _ _ _ _ _ c.requires.shared c.need_of.result (omega (arith, c.need_of.ensures, c.requires.room))

pub bounds-lens-head : goal.bounds-lens-head
bounds-lens-head c = fill_first _ _ _ _ _ c.requires.shared _ c.requires.some c.requires.few
    c.requires.room _ _ _ c.need_of.ensures c.store-rest.ensures.cells c.store-rest.ensures.behind

pub returns-clause-shared : goal.returns-clause-shared
returns-clause-shared c = grind (arith, fill_shared)

pub returns-clause-chains : goal.returns-clause-chains
returns-clause-chains c = fill_chains _ _ _ _ _ c.requires.shared _ c.requires.some c.requires.few
    c.requires.room _ _ _ c.need_of.ensures c.store-rest.ensures.cells c.store-rest.ensures.behind

pub returns-clause-fresh : goal.returns-clause-fresh
returns-clause-fresh c = fill_fresh _ _ _ _ _ c.requires.shared _ c.requires.some c.requires.few
    c.requires.room _ _ _ c.need_of.ensures c.store-rest.ensures.cells c.store-rest.ensures.behind

pub returns-clause-stored : goal.returns-clause-stored
returns-clause-stored c = fill_stored _ _ _ _ _ c.requires.shared _ c.requires.some c.requires.few
    c.requires.room _ _ _ c.need_of.ensures c.store-rest.ensures.cells c.store-rest.ensures.behind
