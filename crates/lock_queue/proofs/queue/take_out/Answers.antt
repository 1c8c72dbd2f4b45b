use Rattle.lock_queue.proofs.Imports.{◌∙◌, part_of, entry_apart, there_in, taken_seen, taken_bins}
use Rattle.lock_queue.proofs.{WaiterLaws.queue-filter, CountLaws.less_one}
use Rattle.lock_queue.proofs.queue.take_out.Goals as goal

pub take_from-requires : goal.take_from-requires
take_from-requires c = entry_apart part_of _ _ c.requires.kept _ _ c.slot_of-slot.ensures.within

pub returns-clause-kept : goal.returns-clause-kept
returns-clause-kept c = taken_bins part_of _ _ c.requires.kept _ _ c.slot_of-slot.ensures.within
    (c.args.r.now, c.args.conn) c.slot_of-slot.ensures.slot _ c.take_from.ensures.waiters

pub returns-clause-there : goal.returns-clause-there
returns-clause-there c = c.take_from.ensures.there ∙ there_in part_of _ _ c.requires.kept _ _
    c.slot_of-slot.ensures.within (c.args.r.now, c.args.conn) c.slot_of-slot.ensures.slot

pub returns-clause-waiters : goal.returns-clause-waiters
returns-clause-waiters c = taken_seen part_of _ _ c.requires.kept _ _ c.slot_of-slot.ensures.within
    (c.args.r.now, c.args.conn) c.slot_of-slot.ensures.slot _ c.take_from.ensures.waiters

pub returns-clause-less : goal.returns-clause-less
returns-clause-less c = rw (returns-clause-waiters c)
    (less_one c.args.r.now c.args.conn _ c.take_from.result (returns-clause-there c) c.requires.kept.one_each)

pub returns-clause-queue : goal.returns-clause-queue
returns-clause-queue c = rw (returns-clause-waiters c) (queue-filter _ _ c.requires.queue)
