use Rattle.lock_table.proofs.Imports.{arith, refl, length-map, all_changed_seen, all_changed_table, in_retention_of, part_of}
use Rattle.lock_table.proofs.table.retain_of.Goals as goal

pub returns-clause-kept : goal.returns-clause-kept
returns-clause-kept c = rw c.put_retentions.ensures
    (all_changed_table part_of _ _ c.requires (in_retention_of c.args.conn c.args.retained) (λ x. refl))

pub returns-clause-owners : goal.returns-clause-owners
returns-clause-owners c = grind (arith, all_changed_seen)

pub returns-clause-len : goal.returns-clause-len
returns-clause-len c = grind (arith, returns-clause-owners, length-map)
