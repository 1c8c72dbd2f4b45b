use Rattle.lock_queue.proofs.Imports.{none_filtered, is_waiter, waiters_in}
use Rattle.lock_queue.proofs.{CountLaws.one_more, WaiterLaws.queue-with}
use Rattle.lock_queue.proofs.queue.put.Goals as goal

pub put_new-place-requires-clause-none : goal.put_new-place-requires-clause-none
put_new-place-requires-clause-none c = rw c.take_out-there.ensures.waiters
    (none_filtered (is_waiter c.args.waiter.r c.args.waiter.conn) (waiters_in c.args.entries.now))

pub returns-clause-queue : goal.returns-clause-queue
returns-clause-queue c = rw (c.put_new-place.ensures.waiters, c.take_out-there.ensures.waiters)
    (queue-with c.args.waiter _ c.requires.queue)

pub returns-clause-more : goal.returns-clause-more
returns-clause-more c = rw c.put_new-place.ensures.waiters
    (one_more _ c.args.waiter _ _ c.take_out-there.result c.take_out-there.ensures.less)
