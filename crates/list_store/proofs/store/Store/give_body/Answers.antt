use Rattle.list_store.proofs.Imports.{arith, sym, subst, IsChain, all_records, loose_in, StoreView}
use Rattle.list_store.proofs.StoreLaws.{loose_chain, given_held, given_view, given_whole}
use Rattle.list_store.proofs.store.Store.give_body.Goals as goal

pub give_back-requires : goal.give_back-requires
give_back-requires c = loose_chain c.self.inside.pool.chains c.self.inside.table.lists c.self.invariant.held
    c.args.chain.head (subst (λ (s : StoreView). IsChain s.loose c.args.chain.head) (sym c.self.view_is) c.requires)

own : (c : goal.After-give_back)
    → IsChain (loose_in c.self.inside.pool.chains (all_records c.self.inside.table.lists)) c.args.chain.head
own c = subst (λ (s : StoreView). IsChain s.loose c.args.chain.head) (sym c.self.view_is) c.requires

pub invariant_of-self : goal.invariant_of-self
invariant_of-self c = record {
  held = given_held c.self.inside.table c.self.inside.pool c.give_back.new.self c.self.invariant.held
      c.args.chain.head (own c) c.give_back.ensures;
  whole = grind (arith, given_whole);
}

pub returns : goal.returns
returns c = grind (arith, given_view, own)
