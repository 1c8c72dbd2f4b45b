use Rattle.std.proofs.Common.{rules}
use Rattle.plex_check.proofs.QueueLaws.{queues_step}
use Rattle.plex_check.proofs.queues.caller_queues.Goals as goal

pub loop-number-preserved : goal.loop-number-preserved
loop-number-preserved c = queues_step c.args.printed.now.histories c.args.on c.args.vector c.args.printed.now.transcripts
    c.items-transcripts.result.now c.items-transcripts.ensures c.items-histories.result.now c.items-histories.ensures
    c.loop-number.number c.loop-number.queues.items c.loop-number.invariant c.from.result (search rules) (search rules)
    c.index-transcripts-from.result c.index-transcripts-from.result c.index-transcripts-from.is
    c.items-items.result.now (search rules) c.in_ok-caller_queue.field-0 c.in_ok-caller_queue.ensures.queue
    c.in_ok-caller_queue.ensures.rising c.push.new.self.items c.in_ok-push.ensures.items
