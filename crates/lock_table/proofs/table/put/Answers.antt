use Rattle.lock_table.proofs.Imports.{is_interest, owners_in, none_filtered}
use Rattle.lock_table.proofs.CountLaws.{one_more}
use Rattle.lock_table.proofs.table.put.Goals as goal

pub put_new-requires-clause-none : goal.put_new-requires-clause-none
put_new-requires-clause-none c = rw c.take_out-there.ensures.owners
    (none_filtered (is_interest c.args.held.r c.args.held.conn) (owners_in c.args.entries.now))

pub returns-clause-more : goal.returns-clause-more
returns-clause-more c = rw c.put_new.ensures.owners
    (one_more _ c.args.held _ _ c.take_out-there.result c.take_out-there.ensures.less)
