use Rattle.std.proofs.Common.{rules}
use Rattle.caller_waits.proofs.QueueLaws.{word_starts, word_more, word_ends}
use Rattle.caller_waits.proofs.queues.push_word.Goals as goal

pub loop-k-init : goal.loop-k-init
loop-k-init c = word_starts c.args.queue.now c.args.vector c.args.at c.args.sure c.args.word c.args.value c.args.many

pub loop-k-preserved : goal.loop-k-preserved
loop-k-preserved c = word_more c.args.queue.now c.args.vector c.args.at c.args.sure c.args.word c.args.value c.args.many
    c.loop-k.queue c.push_bit.new.queue c.loop-k.k c.loop-k.invariant (search rules) c.in_ok-push_bit.ensures
