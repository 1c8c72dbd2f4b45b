use Rattle.list_store.proofs.Imports.{arith, records_of-map, get-map}
use Rattle.list_store.proofs.StoreLaws.{chain_at, shown_option, shown_apart}
use Rattle.list_store.proofs.store.Store.at.Goals as goal

pub returns-clause-record : goal.returns-clause-record
returns-clause-record c = grind (arith, shown_option, get-map, records_of-map)

pub returns-clause-chain : goal.returns-clause-chain
returns-clause-chain c = rw (← c.self.view_is) (chain_at c.self.inside.pool.chains
    c.self.inside.table.lists c.self.invariant.held c.args.header c.args.place c.at.result c.at.ensures.«record»)

pub returns-clause-apart : goal.returns-clause-apart
returns-clause-apart c = rw (← c.self.view_is)
    (shown_apart c.self.inside.pool.chains c.self.inside.table.lists c.at.ensures.apart)
