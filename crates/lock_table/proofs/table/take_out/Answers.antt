use Rattle.lock_table.proofs.Imports.{◌∙◌, part_of, entry_apart, there_in, taken_seen, taken_bins}
use Rattle.lock_table.proofs.CountLaws.{less_one}
use Rattle.lock_table.proofs.table.take_out.Goals as goal

pub take-requires : goal.take-requires
take-requires c = entry_apart part_of _ _ c.requires _ _ c.slot_of-slot.ensures.within

pub returns-clause-kept : goal.returns-clause-kept
returns-clause-kept c = taken_bins part_of _ _ c.requires _ _ c.slot_of-slot.ensures.within (c.args.r.now, c.args.conn)
    c.slot_of-slot.ensures.slot _ c.take.ensures.owners

pub returns-clause-there : goal.returns-clause-there
returns-clause-there c = c.take.ensures.there ∙ there_in part_of
    _ _ c.requires _ _ c.slot_of-slot.ensures.within (c.args.r.now, c.args.conn) c.slot_of-slot.ensures.slot

pub returns-clause-owners : goal.returns-clause-owners
returns-clause-owners c = taken_seen part_of _ _ c.requires
    _ _ c.slot_of-slot.ensures.within (c.args.r.now, c.args.conn) c.slot_of-slot.ensures.slot _ c.take.ensures.owners

pub returns-clause-less : goal.returns-clause-less
returns-clause-less c = rw (returns-clause-owners c)
    (less_one c.args.r.now c.args.conn _ c.take.result (returns-clause-there c) c.requires.one_each)
