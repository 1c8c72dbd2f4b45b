use Rattle.list_store.proofs.Imports.{◌∙◌, sym, orders_in}
use Rattle.list_store.proofs.TiedLaws.{found_header, unfound_header}
use Rattle.list_store.proofs.ties.header_of.Goals as goal

pub returns-in-Some : goal.returns-in-Some
returns-in-Some c = sym (found_header c.args.slab.now (orders_in c.args.orders.now)
    c.args.spots.now.entries c.requires c.args.id.0 _ _ (sym c.spot_for.ensures ∙ c.in-Some.is))

pub returns-in-None : goal.returns-in-None
returns-in-None c = sym (unfound_header c.args.slab.now (orders_in c.args.orders.now)
    c.args.spots.now.entries c.requires c.args.id.0 (sym c.spot_for.ensures ∙ c.in-None.is))
