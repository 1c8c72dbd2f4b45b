use Rattle.list_store.proofs.Imports.{arith, sym, subst, IsChain, all_records, loose_in, StoreView}
use Rattle.list_store.proofs.StoreLaws.{loose_chain, replace_held, replace_view, replace_whole}
use Rattle.list_store.proofs.store.Store.replace_body.Goals as goal

pub replace-requires-clause-chain : goal.replace-requires-clause-chain
replace-requires-clause-chain c = loose_chain
    c.self.inside.pool.chains c.self.inside.table.lists c.self.invariant.held c.args.chain.head (grind arith)

own : (c : goal.After-replace)
    → IsChain (loose_in c.self.inside.pool.chains (all_records c.self.inside.table.lists)) c.args.chain.head
own c = subst (λ (s : StoreView). IsChain s.loose c.args.chain.head) (sym c.self.view_is) c.requires.chain

pub invariant_of-self : goal.invariant_of-self
invariant_of-self c = record {
  held = replace_held c.self.inside.table c.self.inside.pool c.replace.new.self c.self.invariant.held
      c.args.chain.head (own c) c.args.bytes.now c.replace.result c.replace.ensures.fresh c.replace.ensures.put
      c.replace.ensures.same;
  whole = replace_whole c.self.inside.pool c.replace.new.self c.args.chain.head c.args.bytes.now c.requires.some
      c.requires.few c.self.invariant.whole c.replace.result c.replace.ensures.put c.replace.ensures.same;
}

pub returns-clause-put : goal.returns-clause-put
returns-clause-put c = rw (← c.self.view_is)
    (replace_view c.self.inside.table c.self.inside.pool c.replace.new.self c.self.invariant.held
    c.args.chain.head (own c) c.args.bytes.now c.replace.result c.replace.ensures.fresh c.replace.ensures.put)
