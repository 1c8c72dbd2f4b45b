use Rattle.list_store.proofs.Imports.{◌≡◌, ◌∙◌, ◌-◌, [], Some, refl, ap, List, take, length, option_map, IsLastFull, last-map, none-map, popped-map, Rec, rec_id, with_records, record_in}
use Rattle.cf_lists.specs.Lists as generic
use Rattle.list_store.specs.Lists.{all_records, records_of, record_of, lists_without}
use Rattle.list_store.proofs.TiedLaws.{weaker_some, weaker_none}
use Rattle.list_store.proofs.StoreLaws.{shown, PoppedOut, popped_out, shown_apart, shown_record, shown_without}
use Rattle.list_store.proofs.store.Store.pop.Goals as goal

popped : (c : goal.After-pop)
    → PoppedOut c.self.inside.pool.chains c.self.inside.table.lists c.pop.new.self.lists c.pop.result
popped c =
    popped_out c.self.inside.pool.chains c.self.inside.table.lists c.self.invariant.held c.pop.new.self c.pop.result
    c.self.inside.table refl c.pop.ensures.apart c.pop.ensures.found c.pop.ensures.lists c.pop.ensures.same

pub invariant_of-self : goal.invariant_of-self
invariant_of-self c = record { held = (popped c).held; whole = c.self.invariant.whole }

pub returns-clause-header : goal.returns-clause-header
returns-clause-header c = rw (← c.self.view_is) (weaker_some c.pop.result (λ out. IsLastFull out.0
    c.self.inside.table.lists) (λ out. IsLastFull out.0 (shown c.self.inside.pool.chains c.self.inside.table.lists))
    (λ out is. last-map (record_in c.self.inside.pool.chains) c.self.inside.table.lists out.0 is)
    c.pop.ensures.header)

pub returns-clause-found : goal.returns-clause-found
returns-clause-found c =
    let chains = c.self.inside.pool.chains in
    let lists = c.self.inside.table.lists in
    rw (← c.self.view_is) (weaker_some c.pop.result (λ out. generic.record_of rec_id (rec_id out.1)
    lists ≡ Some out.1) (λ out. record_of out.1.id (shown chains lists) ≡ Some (record_in chains out.1))
    (λ out is. shown_record chains lists out.1.id.0 ∙ ap (option_map (record_in chains)) is) c.pop.ensures.found)

pub returns-clause-without : goal.returns-clause-without
returns-clause-without c =
    let chains = c.self.inside.pool.chains in
    let lists = c.self.inside.table.lists in
    rw (← c.self.view_is) (weaker_some c.pop.result (λ out. c.pop.new.self.lists ≡ generic.lists_without rec_id
    (rec_id out.1) lists) (λ out. shown chains c.pop.new.self.lists ≡ lists_without out.1.id (shown chains lists))
    (λ out is. ap (λ (l : List (List Rec)). shown chains l) is
    ∙ shown_without chains lists out.1.id.0) c.pop.ensures.lists)

pub returns-clause-lists : goal.returns-clause-lists
returns-clause-lists c =
    let chains = c.self.inside.pool.chains in
    let lists = c.self.inside.table.lists in
    rw (← c.self.view_is) (weaker_some c.pop.result (λ out. c.pop.new.self.lists ≡ with_records lists out.0
    (take (length (records_of lists out.0) - 1) (records_of lists out.0))) (λ out. shown chains c.pop.new.self.lists
    ≡ with_records (shown chains lists) out.0 (take (length (records_of (shown chains lists) out.0) - 1)
    (records_of (shown chains lists) out.0))) (λ out is. ap (λ (l : List (List Rec)). shown chains l) is
    ∙ popped-map (record_in chains) out.0 lists) c.pop.ensures.popped)

pub returns-clause-chain : goal.returns-clause-chain
returns-clause-chain c = (popped c).chain

pub returns-clause-was : goal.returns-clause-was
returns-clause-was c = rw (← c.self.view_is) (popped c).was

pub returns-clause-none : goal.returns-clause-none
returns-clause-none c = rw (← c.self.view_is) (weaker_none c.pop.result (all_records c.self.inside.table.lists ≡ [])
    (all_records (shown c.self.inside.pool.chains c.self.inside.table.lists) ≡ [])
    (none-map (record_in c.self.inside.pool.chains) c.self.inside.table.lists) c.pop.ensures.none)

pub returns-clause-apart : goal.returns-clause-apart
returns-clause-apart c = rw (← c.self.view_is)
    (shown_apart c.self.inside.pool.chains c.self.inside.table.lists c.pop.ensures.apart)
