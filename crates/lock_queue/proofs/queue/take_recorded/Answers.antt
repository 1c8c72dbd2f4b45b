use Rattle.lock_queue.proofs.Imports.{ap, ◌∙◌, arith, recorded_of, waiters_in}
use Rattle.lock_queue.proofs.CountLaws.{recorded_less}
use Rattle.lock_queue.proofs.queue.take_recorded.Goals as goal

pub overflow_sub-result : goal.overflow_sub-result
overflow_sub-result c =
    let had = c.recorded_of-had.ensures ∙ ap recorded_of c.find_on.ensures in
    let less = recorded_less c.args.r.now c.args.conn (waiters_in c.args.entries.now) c.requires.kept.one_each in
    omega (arith, had, less, c.requires.recorded)
