use Rattle.list_store.proofs.Imports.{arith, ◌∙◌, ap, List, ℕ, subst, sym, is_some, orders_in, lists_at, IsTied, stands_at}
use Rattle.list_store.proofs.TiedLaws.{held_at, found_at, key_there, pull_lists, pull_removed, pull_tied}
use Rattle.list_store.proofs.ties.pull.Goals as goal

pub remove-rec-requires : goal.remove-rec-requires
remove-rec-requires c =
    let r = held_at c.args.slab.now (orders_in c.args.orders.now.items)
    c.args.spots.now.entries c.requires.tied c.args.header c.take_at-key.result (grind (arith, stands_at)) in
    ap is_some r.1

pub returns-clause-record : goal.returns-clause-record
returns-clause-record c = key_there
    c.args.slab.now (orders_in c.args.orders.now.items) c.args.spots.now.entries c.requires.tied c.args.header
    c.args.place c.take_at-key.result c.remove-rec.result c.take_at-key.ensures.key c.remove-rec.ensures.value

pub returns-clause-tied : goal.returns-clause-tied
returns-clause-tied c = subst (λ (l : List (List ℕ)). IsTied c.remove-rec.new.self l c.forget.new.spots.entries)
    (sym c.take_at-key.ensures.lists) (pull_tied c.args.slab.now
    (orders_in c.args.orders.now.items) c.args.spots.now.entries c.requires.tied c.remove-rec.new.self
    c.forget.new.spots.entries c.args.header c.args.place c.take_at-key.result c.remove-rec.result
    c.take_at-key.ensures.key c.remove-rec.ensures.value c.remove-rec.ensures.updates c.forget.ensures.writes)

pub returns-clause-lists : goal.returns-clause-lists
returns-clause-lists c =
    ap (λ (l : List (List ℕ)). lists_at c.remove-rec.new.self l) c.take_at-key.ensures.lists ∙ pull_lists
    c.args.slab.now (orders_in c.args.orders.now.items) c.args.spots.now.entries c.requires.tied c.remove-rec.new.self
    c.forget.new.spots.entries c.args.header c.args.place c.take_at-key.result c.remove-rec.result
    c.take_at-key.ensures.key c.remove-rec.ensures.value c.remove-rec.ensures.updates c.forget.ensures.writes

pub returns-clause-removed : goal.returns-clause-removed
returns-clause-removed c =
    ap (λ (l : List (List ℕ)). lists_at c.remove-rec.new.self l) c.take_at-key.ensures.lists ∙ pull_removed
    c.args.slab.now (orders_in c.args.orders.now.items) c.args.spots.now.entries c.requires.tied c.remove-rec.new.self
    c.forget.new.spots.entries c.args.header c.args.place c.take_at-key.result c.remove-rec.result
    c.take_at-key.ensures.key c.remove-rec.ensures.value c.remove-rec.ensures.updates c.forget.ensures.writes

pub returns-clause-found : goal.returns-clause-found
returns-clause-found c = found_at
    c.args.slab.now (orders_in c.args.orders.now.items) c.args.spots.now.entries c.requires.tied c.args.header
    c.args.place c.take_at-key.result c.remove-rec.result c.take_at-key.ensures.key c.remove-rec.ensures.value
