use Rattle.lock_queue.proofs.Imports.{◌∙◌, sym, [], get_or_default, at_is, part_of}
use Rattle.lock_queue.proofs.queue.at_place.Goals as goal

pub returns-in-Some : goal.returns-in-Some
returns-in-Some c =
    let slot = get_or_default c.args.entries.now c.slot_of-slot.result c.index-entries-slot.result []
    c.slot_of-slot.ensures.within in
    c.nth_in.ensures ∙ rw (c.saturating_sub.ensures, c.index-entries-slot.is, slot, c.slot_of-slot.ensures.slot)
    (at_is part_of _ c.args.order.now c.args.k _ c.in-Some.r (rw c.requires.order c.requires.entries)
    (sym c.key_at.ensures ∙ c.in-Some.is) c.start_of-before.ensures)
