use Rattle.lock_record.proofs.Imports.{◌≡◌, drop, list_any, is_of}
use Rattle.lock_record.proofs.records.Records.has_of.Given as goal

abbrev pub invariant-loop-k : goal.invariant-loop-k
invariant-loop-k l = list_any (is_of l.conn) (drop l.k l.self.entries) ≡ list_any (is_of l.conn) l.self.records
