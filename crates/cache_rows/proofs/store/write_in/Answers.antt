use Rattle.cache_rows.proofs.Imports.{ap, Chains}
use Rattle.cache_rows.proofs.StoreLaws.{written_stored, written_items}
use Rattle.cache_rows.proofs.store.write_in.Goals as goal

pub returns-clause-stored : goal.returns-clause-stored
returns-clause-stored c = written_stored _ _ _ _ c.args.label.now c.store-chain.result c.args.body.now
    c.requires.stored c.store-chain.ensures.fresh (ap (λ (p : Chains). p.chains) c.store-chain.ensures.put)
    c.store-chain.ensures.stored (rw c.row.ensures at c.put.ensures.writes)

pub returns-clause-writes : goal.returns-clause-writes
returns-clause-writes c = written_items _ _ _ _ c.args.label.now c.store-chain.result c.args.body.now
    c.requires.stored c.store-chain.ensures.fresh (ap (λ (p : Chains). p.chains) c.store-chain.ensures.put)
    c.store-chain.ensures.stored (rw c.row.ensures at c.put.ensures.writes)
