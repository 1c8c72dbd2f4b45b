use Rattle.lock_queue.proofs.Imports.{sym, ◌∙◌, none_placed, cut_out, none_out, is_waiter, part_of}
use Rattle.lock_queue.proofs.queue.take_from.Goals as goal

pub returns-in-Some-clause-waiters : goal.returns-in-Some-clause-waiters
returns-in-Some-clause-waiters c = c.cut.ensures.list ∙ cut_out part_of (c.args.r.now, c.args.conn) _ _ c.requires
    (sym c.place_in.ensures ∙ c.in-Some.is)

pub returns-in-None-clause-waiters : goal.returns-in-None-clause-waiters
returns-in-None-clause-waiters c = none_out part_of (c.args.r.now, c.args.conn) c.args.waiters.now
    (none_placed (is_waiter c.args.r.now c.args.conn) c.args.waiters.now (sym c.place_in.ensures ∙ c.in-None.is))
