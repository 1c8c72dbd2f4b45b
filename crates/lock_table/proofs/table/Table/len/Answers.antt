use Rattle.lock_table.proofs.Imports.{part_of, in_order}
use Rattle.lock_table.proofs.table.Table.len.Goals as goal

pub returns-clause-owners : goal.returns-clause-owners
returns-clause-owners c = rw (← c.self.view_is) (record {
  ordered = in_order part_of c.self.inside.entries.items;
  one_each = c.self.invariant.entries.one_each;
})
