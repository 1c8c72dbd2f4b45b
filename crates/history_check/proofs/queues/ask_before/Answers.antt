use Rattle.std.proofs.Common.{rules, ◌<◌, ◌≤◌, length}
use Rattle.struct_machine.specs.StructureView.{stands_at}
use Rattle.vector_waits.specs.Waits.{IsQueue}
use Rattle.history_check.specs.Queues.{IsAskedBefore}
use Rattle.history_check.proofs.Pairing.{done_here, done_step, done_all}
use Rattle.history_check.proofs.queues.ask_before.Goals as goal

pub ask_before-requires-after_bounds : goal.ask_before-requires-after_bounds
ask_before-requires-after_bounds g c κs within =
    let inside : c.loop-queue.queue-index < length c.args.queues.now = search rules in
    done_here (IsAskedBefore c.args.number (stands_at g.E.Engine.meaning c.args.machine.now.machine))
    (IsQueue c.args.number) c.loop-queue.queue-index c.args.queues.now c.loop-queue.queues
    c.queue-item.result c.loop-queue.invariant inside c.requires

pub loop-queue-preserved : goal.loop-queue-preserved
loop-queue-preserved g c =
    let inside : c.loop-queue.queue-index < length c.args.queues.now = search rules in
    done_step (IsAskedBefore c.args.number (stands_at g.E.Engine.meaning c.args.machine.now.machine))
    c.loop-queue.queue-index c.args.queues.now
    c.loop-queue.queues c.queue-item.result _ c.loop-queue.invariant inside c.ask_before.ensures

pub returns : goal.returns
returns g c =
    let past : length c.args.queues.now ≤ c.loop-queue.queue-index = search rules in
    done_all (IsAskedBefore c.args.number (stands_at g.E.Engine.meaning c.args.machine.now.machine))
    c.loop-queue.queue-index c.args.queues.now c.loop-queue.queues c.loop-queue.invariant past
