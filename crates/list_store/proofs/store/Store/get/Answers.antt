use Rattle.list_store.proofs.Imports.{◌∙◌, sym, ap, option_map, record_in}
use Rattle.list_store.proofs.StoreLaws.{chain_of, shown_apart, shown_option, shown_record}
use Rattle.list_store.proofs.store.Store.get.Goals as goal

pub returns-clause-chain : goal.returns-clause-chain
returns-clause-chain c = rw (← c.self.view_is) (chain_of c.self.inside.pool.chains
    c.self.inside.table.lists c.self.invariant.held c.args.id.0 c.get.result c.get.ensures.«record»)

pub returns-clause-apart : goal.returns-clause-apart
returns-clause-apart c = rw (← c.self.view_is)
    (shown_apart c.self.inside.pool.chains c.self.inside.table.lists c.get.ensures.apart)

pub returns-clause-record : goal.returns-clause-record
returns-clause-record c =
    let chains = c.self.inside.pool.chains in
    rw (← c.self.view_is) (shown_option chains c.get.result ∙ ap (option_map (record_in chains)) c.get.ensures.«record»
    ∙ sym (shown_record chains c.self.inside.table.lists c.args.id.0))
