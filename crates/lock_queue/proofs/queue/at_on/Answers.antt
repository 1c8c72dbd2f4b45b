use Rattle.lock_queue.proofs.Imports.{◌∙◌, [], get_or_default, found, placed_some, part_of}
use Rattle.lock_queue.proofs.queue.at_on.Goals as goal

pub returns : goal.returns
returns c =
    let slot = get_or_default c.args.entries.now c.slot_of-slot.result c.index-entries-slot.result []
    c.slot_of-slot.ensures.within in
    c.nth_in.ensures
    ∙ placed_some part_of c.args.r.now _ c.args.k _ _ c.count_all_ahead-before.ensures c.if-k-before.false (rw
    (c.index-entries-slot.is, slot, c.slot_of-slot.ensures.slot) (found part_of c.args.r.now _ _ c.requires.entries))
