use Rattle.std.proofs.Common.{refl}
use Rattle.plex_check.proofs.QueueLaws.{result_rises}
use Rattle.plex_check.proofs.queues.caller_queue.Goals as goal

pub returns-clause-rising : goal.returns-clause-rising
returns-clause-rising c = result_rises c.args.histories.now c.args.on c.args.vector c.args.conn c.args.items.now
    c.in_ok-many.many c.requires.caller c.in_ok-many.ensures _ refl c.queue_of.result c.queue_of.ensures.queue
