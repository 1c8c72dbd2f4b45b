use Rattle.lock_table.proofs.Imports.{arith, refl, length-map, in_retention, part_of, entry_apart, changed_seen, changed_table, of_seen, not_here}
use Rattle.lock_table.proofs.EntryLaws.{retention_else}
use Rattle.lock_table.proofs.table.put_retention.Goals as goal

pub set_retained-requires : goal.set_retained-requires
set_retained-requires c = entry_apart part_of _ _ c.requires _ _ c.slot_of-slot.ensures.within

pub returns-clause-kept : goal.returns-clause-kept
returns-clause-kept c = of_seen part_of _ _ (changed_table part_of
    _ _ c.requires _ _ c.slot_of-slot.ensures.within (in_retention c.args.r.now c.args.conn c.args.retained)
    (λ x. refl) (λ x off. retention_else c.args.r.now c.args.conn c.args.retained
    x (not_here part_of _ _ (c.args.r.now, c.args.conn) c.slot_of-slot.ensures.slot x off)) _ c.set_retained.ensures)

pub returns-clause-owners : goal.returns-clause-owners
returns-clause-owners c = grind (arith, changed_seen, retention_else, not_here)

pub returns-clause-len : goal.returns-clause-len
returns-clause-len c = grind (arith, returns-clause-owners, length-map)
