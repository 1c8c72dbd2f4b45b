use Rattle.lock_table.proofs.Imports.{◌∙◌, map, resource_by, found, part_of, owners_in}
use Rattle.lock_table.proofs.table.Table.owners.Goals as goal

pub returns : goal.returns
returns c = c.owners_on.ensures
    ∙ rw (c.deref.ensures.value, ← c.self.view_is) (found part_of c.args.r.now c.self.inside.entries.items
    (map (resource_by part_of) (owners_in c.self.inside.entries.items)) c.self.invariant.entries)
