use Rattle.list_store.proofs.Imports.{◌∙◌, ap, List, map, Rec, record_in}
use Rattle.list_store.proofs.StoreLaws.{shown_none, held_none, whole_none}
use Rattle.list_store.proofs.store.Store.new.Goals as goal

pub invariant_of-result : goal.invariant_of-result
invariant_of-result c = record {
  held = (held_none c.in_ok-pool.pool.chains c.in_ok-table.table.lists c.args.headers c.in_ok-table.ensures).0;
  whole = whole_none c.in_ok-pool.pool.chains c.args.elements c.in_ok-pool.ensures.chains;
}

pub returns-clause-lists : goal.returns-clause-lists
returns-clause-lists c = ap (λ (l : List (List Rec)). map (map (record_in c.in_ok-pool.pool.chains)) l)
    c.in_ok-table.ensures ∙ shown_none c.in_ok-pool.pool.chains c.args.headers
