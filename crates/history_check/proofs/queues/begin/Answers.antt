use Rattle.std.proofs.Common.{rules, ◌<◌, ◌≤◌, length}
use Rattle.history_check.specs.Queues.{IsBegun}
use Rattle.history_check.proofs.Pairing.{done_step, done_all}
use Rattle.history_check.proofs.queues.begin.Goals as goal

pub loop-queue-preserved : goal.loop-queue-preserved
loop-queue-preserved c =
    let inside : c.loop-queue.queue-index < length c.args.queues.now = search rules in
    done_step IsBegun c.loop-queue.queue-index c.args.queues.now c.loop-queue.queues c.queue-item.result _
    c.loop-queue.invariant inside c.begin.ensures

pub returns : goal.returns
returns c =
    let past : length c.args.queues.now ≤ c.loop-queue.queue-index = search rules in
    done_all IsBegun c.loop-queue.queue-index c.args.queues.now c.loop-queue.queues c.loop-queue.invariant past
