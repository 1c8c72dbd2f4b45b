use Rattle.lock_table.proofs.Imports.{◌≡◌, map, take, drop, owners_retained_of}
use Rattle.lock_table.proofs.table.put_retentions.Given as goal

abbrev pub invariant-loop-entry : goal.invariant-loop-entry
invariant-loop-entry l = (take l.entry-index l.entries ≡ map (owners_retained_of l.conn l.retained)
    (take l.entry-index l.initial.entries)) × (drop l.entry-index l.entries ≡ drop l.entry-index l.initial.entries)
