use Rattle.std.proofs.Common.{rules, List, ◌+◌, get_or, refl, subst, sym}
use Rattle.vector_waits.specs.Waits.{QueueView}
use Rattle.caller_waits.proofs.QueueLaws.{AreBelow, queue_more}
use Rattle.caller_waits.proofs.queues.waits.Goals as goal

pub loop-number-preserved : goal.loop-number-preserved
loop-number-preserved c = subst (λ (l : List QueueView). AreBelow c.args.structures.now c.args.conn
    c.args.items.now l (c.loop-number.number + 1)) (sym c.in_ok-push.ensures.items) (queue_more c.args.structures.now
    c.args.conn c.args.items.now c.loop-number.queues.items c.loop-number.number c.loop-number.invariant c.from.result
    (search rules) (search rules) (get_or c.args.structures.now c.from.result c.index-structures-from.result)
    c.index-structures-from.result refl c.in_ok-queue_of.field-0 c.in_ok-queue_of.ensures.queue)
