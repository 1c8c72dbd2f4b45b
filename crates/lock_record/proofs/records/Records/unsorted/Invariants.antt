use Rattle.lock_record.proofs.Imports.{◌≡◌, ◌++◌, drop, resources_by}
use Rattle.lock_record.proofs.records.Records.unsorted.Given as goal

abbrev pub invariant-loop-k : goal.invariant-loop-k
invariant-loop-k l =
    l.list.items ++ resources_by l.conn (drop l.k l.self.entries) ≡ resources_by l.conn l.self.entries
