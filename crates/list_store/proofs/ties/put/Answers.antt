use Rattle.list_store.proofs.Imports.{◌∙◌, ap, arith, List, ℕ, subst, sym, length-map, orders_in, lists_at, IsTied}
use Rattle.list_store.proofs.TiedLaws.{put_lists, put_tied}
use Rattle.list_store.proofs.ties.put.Goals as goal

pub returns-clause-tied : goal.returns-clause-tied
returns-clause-tied c = subst (λ (l : List (List ℕ)). IsTied c.store-key.new.slab l c.write.new.spots.entries)
    (sym c.put.ensures.lists) (put_tied c.args.slab.now (orders_in c.args.orders.now.items)
    c.args.spots.now.entries c.requires.tied c.store-key.new.slab c.write.new.spots.entries
    c.args.header c.args.place c.store-key.result c.args.rec (grind (arith, length-map)) c.requires.place
    c.requires.alone c.store-key.ensures.vacant c.store-key.ensures.updates c.write.ensures)

pub returns-clause-lists : goal.returns-clause-lists
returns-clause-lists c = ap (λ (l : List (List ℕ)). lists_at c.store-key.new.slab l) c.put.ensures.lists ∙ put_lists
    c.args.slab.now (orders_in c.args.orders.now.items) c.args.spots.now.entries c.requires.tied c.store-key.new.slab
    c.write.new.spots.entries c.args.header c.args.place c.store-key.result c.args.rec (grind (arith, length-map))
    c.requires.place c.requires.alone c.store-key.ensures.vacant c.store-key.ensures.updates c.write.ensures
