use Rattle.lock_record.proofs.Imports.{arith, filter-RetainsPairs}
use Rattle.lock_record.proofs.MapLaws.{departed_records}
use Rattle.lock_record.proofs.records.take_out_conn.Goals as goal

pub returns-clause-records : goal.returns-clause-records
returns-clause-records c = grind (arith, departed_records, filter-RetainsPairs)
