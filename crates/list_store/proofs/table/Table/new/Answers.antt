use Rattle.list_store.proofs.Imports.{◌≡◌, ◌∙◌, ap, ℕ, arith, List, replicate, [], length-map, length-replicate, orders_in, is_few, list_all, lists_at}
use Rattle.list_store.proofs.{VecLaws.few-replicate, TiedLaws.new_tied, TiedLaws.no_lists}
use Rattle.list_store.proofs.table.Table.new.Goals as goal

pub invariant_of-result : goal.invariant_of-result
invariant_of-result c =
    let none : List ℕ = [] in
    let made : orders_in c.in_ok-orders.orders.items ≡ replicate c.args.headers none = c.in_ok-orders.ensures in
    record {
      tied = new_tied c.new.result (orders_in c.in_ok-orders.orders.items) c.new-2.result.entries c.args.headers made
          c.new-2.ensures.empty;
      few = ap (λ (l : List (List ℕ)). list_all is_few l) made ∙ few-replicate c.args.headers;
      headers = grind (arith, length-map, length-replicate);
    }

pub returns : goal.returns
returns c = ap (λ (l : List (List ℕ)). lists_at c.new.result l) c.in_ok-orders.ensures
    ∙ no_lists c.new.result c.args.headers
