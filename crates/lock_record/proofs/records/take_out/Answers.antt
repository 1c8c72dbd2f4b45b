use Rattle.lock_record.proofs.Imports.{is_some, ap, ◌∙◌}
use Rattle.lock_record.proofs.MapLaws.{looked_there, removed_records}
use Rattle.lock_record.proofs.records.take_out.Goals as goal

pub returns-clause-there : goal.returns-clause-there
returns-clause-there c = c.is_some.ensures ∙ ap is_some c.swap_remove.ensures.value
    ∙ looked_there c.args.map.now.entries c.requires (c.args.r.now, c.args.conn)

pub returns-clause-records : goal.returns-clause-records
returns-clause-records c = removed_records c.args.map.now.entries c.swap_remove.new.self.entries
    (c.args.r.now, c.args.conn) c.requires c.swap_remove.ensures.unique c.swap_remove.ensures.updates.0
