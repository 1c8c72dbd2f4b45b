use Rattle.lock_interests.proofs.Imports.{◌≡◌, ◌++◌, drop, filter_map, read_in}
use Rattle.lock_interests.proofs.interests.read_each.Given as goal

abbrev pub invariant-loop-r : goal.invariant-loop-r
invariant-loop-r l = l.list.items ++ filter_map (read_in l.conn l.records.records l.owners.owners)
    (drop l.r-index l.resources) ≡ filter_map (read_in l.conn l.records.records l.owners.owners) l.resources
