use Rattle.list_store.proofs.Imports.{◌∙◌, ap, ℕ, arith, List, length, set, Vec, Global, Rec, records_of, orders_in, lists_at}
use Rattle.list_store.proofs.TiedLaws.{length-at, remove_last}
use Rattle.list_store.proofs.ties.pop_out.Goals as goal

pub returns-clause-popped : goal.returns-clause-popped
returns-clause-popped c =
    let lists = lists_at c.args.slab.now (orders_in c.args.orders.now.items) in
    let keys = ap (λ (l : List (Vec ℕ Global)). length
    (records_of (orders_in l) c.args.header)) c.as_slice.ensures.value in
    let many = length-at c.args.slab.now (orders_in c.args.orders.now.items) c.args.header in
    c.pull.ensures.removed ∙ ap (λ (l : List Rec). set lists c.args.header l) (grind (arith, remove_last))
