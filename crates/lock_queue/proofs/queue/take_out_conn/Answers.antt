use Rattle.lock_queue.proofs.Imports.{arith, mapped_more, waiters_without_conn}
use Rattle.lock_queue.proofs.queue.take_out_conn.Goals as goal

pub loop-waiters-preserved : goal.loop-waiters-preserved
loop-waiters-preserved c =
    let next = mapped_more (waiters_without_conn c.args.conn) c.args.entries.now _ _ _ _
    (omega (arith, c.loop-waiters.auto.entries, c.loop-waiters-test.true)) c.take_conn.ensures.waiters
    c.loop-waiters.invariant.0 c.loop-waiters.invariant.1 in
    (next.0, next.1, omega (arith, c.loop-waiters.invariant.2, c.take_conn.ensures.spare))
