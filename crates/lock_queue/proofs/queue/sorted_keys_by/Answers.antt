use Rattle.lock_queue.proofs.Imports.{List, map, filter, ap, subst, arith, ◌∙◌, IsPermutation, Resource, same_resource, resource_before, joined, resource_order, neighbours, sorted_is, arranged-filter, is_by, resource_of}
use Rattle.lock_queue.proofs.queue.sorted_keys_by.Goals as goal

pub returns : goal.returns
returns c = sorted_is same_resource resource_before resource_order
    resource_of (filter (is_by c.args.conn) (joined c.args.entries.now)) c.sort.new.self.items
    (subst (λ (l : List Resource). IsPermutation l c.sort.new.self.items) c.in_ok-keys.ensures
    c.in_ok-sort.ensures.permutation) (neighbours same_resource resource_before resource_order c.sort.new.self.items
    (λ k d less. c.in_ok-sort.ensures.sorted k d (omega arith) less)) ∙ ap (map resource_of) (arranged-filter
    resource_of same_resource resource_before resource_order (is_by c.args.conn) (joined c.args.entries.now))
