use Rattle.lock_queue.proofs.Imports.{◌∙◌, ap, and_parts, found_in, is_waiter, waiter_of, part_of}
use Rattle.lock_queue.proofs.queue.find_on.Goals as goal

pub returns : goal.returns
returns c = c.find_in.ensures ∙ ap (waiter_of c.args.r.now c.args.conn) c.index-entries-slot.is
    ∙ found_in part_of _ _ c.requires _ _ c.slot_of-slot.ensures.within (c.args.r.now, c.args.conn)
    c.slot_of-slot.ensures.slot (is_waiter c.args.r.now c.args.conn) (λ x e. (and_parts _ _ e).0)
