use Rattle.list_store.proofs.Imports.{◌∙◌, sym, orders_in}
use Rattle.list_store.proofs.TiedLaws.{get_there, get_past}
use Rattle.list_store.proofs.ties.at.Goals as goal

pub returns-in-Some : goal.returns-in-Some
returns-in-Some c = c.get.ensures ∙ get_there c.args.slab.now (orders_in c.args.orders.now) c.args.spots.now.entries
    c.requires.tied c.args.header c.args.place c.in-Some.key (sym c.key_at.ensures ∙ c.in-Some.is)

pub returns-in-None : goal.returns-in-None
returns-in-None c = sym (get_past c.args.slab.now (orders_in c.args.orders.now)
    c.args.spots.now.entries c.requires.tied c.args.header c.args.place (sym c.key_at.ensures ∙ c.in-None.is))
