use Rattle.std.proofs.Common.{rules, get_or, refl}
use Rattle.caller_slots.specs.RunShown.PlexScript.declared.transcripts.Shown.{Shown}
use Rattle.caller_waits.proofs.QueueLaws.{queue_starts, queue_step, queue_ends, queue_small}
use Rattle.caller_waits.proofs.queues.queue_of.Goals as goal

abbrev nothing : Shown
nothing = Shown.Call (record { 0 = 0 }) 0

pub loop-item-init : goal.loop-item-init
loop-item-init c =
    queue_starts c.args.on c.args.vector c.args.conn c.args.items.now c.new-queue.result c.new-queue.ensures

pub loop-item-preserved : goal.loop-item-preserved
loop-item-preserved c = queue_step c.args.on c.args.vector c.args.conn c.args.items.now c.loop-item.queue
    c.push_here.new.queue c.loop-item.sure c.loop-item.item-index c.loop-item.invariant (search rules)
    (get_or c.args.items.now c.loop-item.item-index nothing) nothing refl c.in_ok-push_here.ensures
    c.sure_after-sure.result c.sure_after-sure.ensures c.item_fits.ensures

pub returns-clause-queue : goal.returns-clause-queue
returns-clause-queue c = queue_ends c.args.on c.args.vector c.args.conn
    c.args.items.now c.loop-item.queue c.loop-item.sure c.loop-item.item-index c.loop-item.invariant (search rules)

pub returns-clause-small : goal.returns-clause-small
returns-clause-small c = queue_small c.args.on c.args.vector c.args.conn c.args.items.now c.loop-item.queue
    c.loop-item.sure c.loop-item.item-index c.loop-item.invariant (search rules)
