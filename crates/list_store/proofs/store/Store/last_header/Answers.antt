use Rattle.list_store.proofs.Imports.{◌≡◌, [], IsLastFull, all_records, last-map, none-map, record_in}
use Rattle.list_store.proofs.{TiedLaws.weaker_some, TiedLaws.weaker_none, StoreLaws.shown}
use Rattle.list_store.proofs.store.Store.last_header.Goals as goal

pub returns-clause-found : goal.returns-clause-found
returns-clause-found c = rw (← c.self.view_is) (weaker_some c.last_header.result (λ h. IsLastFull h
    c.self.inside.table.lists) (λ h. IsLastFull h (shown c.self.inside.pool.chains c.self.inside.table.lists))
    (λ h is. last-map (record_in c.self.inside.pool.chains) c.self.inside.table.lists h is)
    c.last_header.ensures.found)

pub returns-clause-none : goal.returns-clause-none
returns-clause-none c = rw (← c.self.view_is) (weaker_none c.last_header.result (all_records
    c.self.inside.table.lists ≡ []) (all_records (shown c.self.inside.pool.chains c.self.inside.table.lists) ≡ [])
    (none-map (record_in c.self.inside.pool.chains) c.self.inside.table.lists) c.last_header.ensures.none)
