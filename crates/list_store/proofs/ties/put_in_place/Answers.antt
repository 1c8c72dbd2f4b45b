use Rattle.list_store.proofs.Imports.{arith, ◌∙◌, sym, false≢true, orders_in}
use Rattle.list_store.proofs.TiedLaws.{none_there, is_key, found_record, set_lists, set_tied}
use Rattle.list_store.proofs.ties.put_in_place.Goals as goal

pub unreachable-requires : goal.unreachable-requires
unreachable-requires c = false≢true (sym (none_there c.args.slab.now (orders_in c.args.orders.now)
    c.args.spots.now.entries c.requires.tied c.args.rec.id.0 (grind arith)) ∙ c.requires.there)

pub swap-requires : goal.swap-requires
swap-requires c = is_key c.args.slab.now (orders_in c.args.orders.now)
    c.args.spots.now.entries c.requires.tied c.args.rec.id.0 _ _ (sym c.spot_for.ensures ∙ c.in-Some.is)

pub returns-clause-record : goal.returns-clause-record
returns-clause-record c = sym (found_record c.args.slab.now (orders_in c.args.orders.now) c.args.spots.now.entries
    c.requires.tied c.args.rec.id.0 _ _ (sym c.spot_for.ensures ∙ c.in-Some.is)) ∙ c.swap.ensures.value

pub returns-clause-tied : goal.returns-clause-tied
returns-clause-tied c = set_tied c.args.slab.now (orders_in c.args.orders.now) c.args.spots.now.entries
    c.requires.tied c.swap.new.slab _ _ c.args.rec (sym c.spot_for.ensures ∙ c.in-Some.is) c.swap.ensures.updates

pub returns-clause-lists : goal.returns-clause-lists
returns-clause-lists c = set_lists c.args.slab.now (orders_in c.args.orders.now) c.args.spots.now.entries
    c.requires.tied c.swap.new.slab _ _ c.args.rec (sym c.spot_for.ensures ∙ c.in-Some.is) c.swap.ensures.updates
