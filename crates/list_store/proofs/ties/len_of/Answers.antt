use Rattle.list_store.proofs.Imports.{◌∙◌, arith, length-map, orders_in}
use Rattle.list_store.proofs.TiedLaws.{few-at, length-at}
use Rattle.list_store.proofs.ties.len_of.Goals as goal

pub overflow_cast-result : goal.overflow_cast-result
overflow_cast-result c = grind (arith, few-at, length-map)

pub returns : goal.returns
returns c = c.count.ensures ∙ length-at c.args.slab.now (orders_in c.args.orders.now) c.args.header
