use Rattle.lock_record.proofs.MapLaws.{put_records}
use Rattle.lock_record.proofs.records.put_in.Goals as goal

pub returns-clause-records : goal.returns-clause-records
returns-clause-records c = put_records c.args.map.now.entries c.write.new.map.entries
    (c.args.r, c.args.conn) c.args.rec c.requires.unique c.write.ensures.unique c.write.ensures.writes
