use Rattle.lock_table.proofs.Imports.{map, map-append, resource_of, refl}
use Rattle.lock_table.proofs.CountLaws.{keys_more, keys_end}
use Rattle.lock_table.proofs.table.keys_of.Goals as goal

pub loop-entry-preserved : goal.loop-entry-preserved
loop-entry-preserved c = keys_more (map resource_of) (map-append resource_of) _ _ _ _ _ _ c.loop-entry-test.true
    c.entry-item.is c.in_ok-push_keys.ensures c.loop-entry.invariant

pub returns : goal.returns
returns c =
    keys_end (map resource_of) (map-append resource_of) _ _ _ _ refl c.loop-entry-test.false c.loop-entry.invariant
