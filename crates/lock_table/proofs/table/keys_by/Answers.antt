use Rattle.lock_table.proofs.Imports.{List, map, filter, refl, Held, is_by, resource_of}
use Rattle.lock_table.proofs.CountLaws.{resources_by, keys_more, keys_end}
use Rattle.lock_table.proofs.table.keys_by.Goals as goal

pub loop-entry-preserved : goal.loop-entry-preserved
loop-entry-preserved c =
    keys_more (λ (l : List Held). map resource_of (filter (is_by c.args.conn) l)) (resources_by (is_by c.args.conn))
    _ _ _ _ _ _ c.loop-entry-test.true c.entry-item.is c.in_ok-push_keys_by.ensures c.loop-entry.invariant

pub returns : goal.returns
returns c = keys_end (λ (l : List Held). map resource_of (filter (is_by c.args.conn) l))
    (resources_by (is_by c.args.conn)) _ _ _ _ refl c.loop-entry-test.false c.loop-entry.invariant
