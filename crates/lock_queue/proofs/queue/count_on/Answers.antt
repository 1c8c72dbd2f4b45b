use Rattle.lock_queue.proofs.Imports.{◌∙◌, ap, List, length, kept_in, Waiter, is_on, waiters_of, part_of}
use Rattle.lock_queue.proofs.queue.count_on.Goals as goal

pub returns : goal.returns
returns c = c.count_in.ensures ∙ ap (λ (l : List Waiter). length (waiters_of c.args.r.now l)) c.index-entries-slot.is
    ∙ ap length (kept_in part_of _ _ c.requires _ _ c.slot_of-slot.ensures.within (c.args.r.now, record { 0 = 0 })
    c.slot_of-slot.ensures.slot (is_on c.args.r.now) (λ x e. e))
