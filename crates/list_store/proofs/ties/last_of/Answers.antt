use Rattle.list_store.proofs.Imports.{◌≡◌, arith, [], length-map, orders_in, IsLastFull, all_records, lists_at, rec_at, last-map, none-map}
use Rattle.list_store.proofs.TiedLaws.{weaker_some, weaker_none}
use Rattle.list_store.proofs.ties.last_of.Goals as goal

pub returns-clause-found : goal.returns-clause-found
returns-clause-found c = weaker_some c.last_header.result (λ h. IsLastFull h (orders_in c.args.orders.now))
    (λ h. IsLastFull h (lists_at c.args.slab.now (orders_in c.args.orders.now)))
    (λ h is. last-map (rec_at c.args.slab.now) (orders_in c.args.orders.now) h is) c.last_header.ensures.found

pub returns-clause-within : goal.returns-clause-within
returns-clause-within c = grind (arith, weaker_some, length-map)

pub returns-clause-none : goal.returns-clause-none
returns-clause-none c = weaker_none c.last_header.result (all_records (orders_in c.args.orders.now) ≡ [])
    (all_records (lists_at c.args.slab.now (orders_in c.args.orders.now)) ≡ [])
    (none-map (rec_at c.args.slab.now) (orders_in c.args.orders.now)) c.last_header.ensures.none
