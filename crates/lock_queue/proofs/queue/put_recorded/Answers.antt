use Rattle.lock_queue.proofs.Imports.{ap, ◌∙◌, arith, recorded_of, waiters_in}
use Rattle.lock_queue.proofs.CountLaws.{recorded_less, recorded_more}
use Rattle.lock_queue.proofs.queue.put_recorded.Goals as goal

pub overflow_sub-result : goal.overflow_sub-result
overflow_sub-result c =
    let had = c.recorded_of-had.ensures ∙ ap recorded_of c.find_on.ensures in
    let less = recorded_less c.args.waiter.now.r
    c.args.waiter.now.conn (waiters_in c.args.entries.now) c.requires.kept.one_each in
    omega (arith, had, less, c.requires.recorded)

pub returns : goal.returns
returns c =
    let had = c.recorded_of-had.ensures ∙ ap recorded_of c.find_on.ensures in
    let less = recorded_less c.args.waiter.now.r
    c.args.waiter.now.conn (waiters_in c.args.entries.now) c.requires.kept.one_each in
    let more = recorded_more c.args.waiter.now (waiters_in c.args.entries.now) c.requires.kept.one_each in
    omega (arith, had, less, more, c.requires.recorded, c.recorded_by.ensures)
