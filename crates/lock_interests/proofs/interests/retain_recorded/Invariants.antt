use Rattle.lock_interests.proofs.Imports.{◌≡◌, drop, retained_all}
use Rattle.lock_interests.proofs.interests.retain_recorded.Given as goal

abbrev pub invariant-loop-k : goal.invariant-loop-k
invariant-loop-k l = (retained_all l.conn (drop l.k l.records.entries)
    l.owners.owners ≡ retained_all l.conn l.records.entries l.fn.owners.owners) × (l.owners.room ≡ l.fn.owners.room)
