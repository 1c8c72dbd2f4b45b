use Rattle.list_store.proofs.Imports.{arith, ◌≡◌, ◌∙◌, ap, sym, subst, refl, List, Some, map, replaced-map, Rec, StoreView, rec_id, record_id, record_in, HasChain, AreHeld, loose_in, option_map}
use Rattle.cf_lists.specs.Lists as generic
use Rattle.list_store.specs.Lists.{all_records}
use Rattle.list_store.proofs.StoreLaws.{replaced_held, replaced_chain, replaced_was, shown_apart, shown_record, shown_any}
use Rattle.list_store.proofs.store.Store.set.Goals as goal

own : (c : goal.After-set)
    → HasChain (loose_in c.self.inside.pool.chains (all_records c.self.inside.table.lists)) c.args.rec.body
own c = subst (λ (s : StoreView). HasChain s.loose c.args.rec.body) (sym c.self.view_is) c.requires.chain

found : (c : goal.After-set) → generic.record_of rec_id c.args.rec.id.0 c.self.inside.table.lists ≡ Some c.set.result
found c = grind arith

pub invariant_of-self : goal.invariant_of-self
invariant_of-self c =
    let chains = c.self.inside.pool.chains in
    record {
      held = subst (λ (l : List (List Rec)). AreHeld chains (all_records l)) (sym c.set.ensures.lists)
          (replaced_held chains c.self.inside.table.lists c.self.invariant.held c.set.result c.args.rec
          c.set.ensures.apart (found c) (own c));
      whole = c.self.invariant.whole;
    }

pub returns-clause-chain : goal.returns-clause-chain
returns-clause-chain c =
    let chains = c.self.inside.pool.chains in
    subst (λ (l : List (List Rec)). HasChain (loose_in chains (all_records l)) c.set.result.body)
    (sym c.set.ensures.lists) (replaced_chain chains c.self.inside.table.lists c.self.invariant.held
    c.set.result c.args.rec c.set.ensures.apart (found c) (own c))

pub returns-clause-lists : goal.returns-clause-lists
returns-clause-lists c =
    let chains = c.self.inside.pool.chains in
    rw (← c.self.view_is) (ap (λ (l : List (List Rec)). map (map (record_in chains)) l) c.set.ensures.lists
    ∙ replaced-map (record_in chains) rec_id record_id (λ x. refl) c.args.rec c.self.inside.table.lists)

pub returns-clause-was : goal.returns-clause-was
returns-clause-was c = grind (arith, replaced_was, found, own)

pub returns-clause-apart : goal.returns-clause-apart
returns-clause-apart c = rw (← c.self.view_is)
    (shown_apart c.self.inside.pool.chains c.self.inside.table.lists c.set.ensures.apart)

pub returns-clause-record : goal.returns-clause-record
returns-clause-record c =
    let chains = c.self.inside.pool.chains in
    rw (← c.self.view_is) (shown_record chains c.self.inside.table.lists c.args.id.0
    ∙ ap (option_map (record_in chains)) c.set.ensures.«record»)

pub set-requires-clause-there : goal.set-requires-clause-there
set-requires-clause-there c = sym (shown_any c.self.inside.pool.chains c.self.inside.table.lists c.args.id.0)
    ∙ (rw (← c.self.view_is) at c.requires.there)
