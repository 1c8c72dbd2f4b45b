use Rattle.list_store.proofs.Imports.{◌∙◌, ◌<◌, ap, sym, subst, arith, List, length, map, length-map, with-map, Rec, StoreView, record_in, HasChain, AreHeld, loose_in}
use Rattle.list_store.specs.Lists.{all_records}
use Rattle.list_store.proofs.StoreLaws.{added_held, added_loose, shown_any}
use Rattle.list_store.proofs.store.Store.add.Goals as goal

within : (c : goal.After-add) → c.args.header < length c.self.inside.table.lists
within c = grind (arith, length-map)

own : (c : goal.After-add)
    → HasChain (loose_in c.self.inside.pool.chains (all_records c.self.inside.table.lists)) c.args.rec.body
own c = subst (λ (s : StoreView). HasChain s.loose c.args.rec.body) (sym c.self.view_is) c.requires.chain

pub invariant_of-self : goal.invariant_of-self
invariant_of-self c =
    let chains = c.self.inside.pool.chains in
    record {
      held = subst (λ (l : List (List Rec)). AreHeld chains (all_records l)) (sym c.add.ensures) (added_held chains
          c.self.inside.table.lists c.self.invariant.held c.args.header c.args.place c.args.rec (within c) (own c));
      whole = c.self.invariant.whole;
    }

pub returns-clause-lists : goal.returns-clause-lists
returns-clause-lists c =
    let chains = c.self.inside.pool.chains in
    rw (← c.self.view_is) (ap (λ (l : List (List Rec)). map (map (record_in chains)) l) c.add.ensures
    ∙ with-map (record_in chains) c.args.header c.args.place c.args.rec c.self.inside.table.lists)

pub returns-clause-loose : goal.returns-clause-loose
returns-clause-loose c = grind (arith, added_loose, within, own)

pub add-requires-clause-alone : goal.add-requires-clause-alone
add-requires-clause-alone c = sym (shown_any c.self.inside.pool.chains c.self.inside.table.lists c.args.rec.id.0)
    ∙ (rw (← c.self.view_is) at c.requires.alone)
