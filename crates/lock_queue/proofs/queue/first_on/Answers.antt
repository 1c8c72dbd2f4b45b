use Rattle.lock_queue.proofs.Imports.{◌∙◌, ap, found_in, is_on, first_of, part_of}
use Rattle.lock_queue.proofs.queue.first_on.Goals as goal

pub returns : goal.returns
returns c = c.first_in.ensures ∙ ap (first_of c.args.r.now) c.index-entries-slot.is
    ∙ found_in part_of _ _ c.requires _ _ c.slot_of-slot.ensures.within (c.args.r.now, record { 0 = 0 })
    c.slot_of-slot.ensures.slot (is_on c.args.r.now) (λ x e. e)
