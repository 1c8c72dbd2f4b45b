use Rattle.std.proofs.Common.{rules}
use Rattle.plex_check.proofs.TableLaws.{table_back}
use Rattle.plex_check.proofs.structures.judge_asked.Goals as goal

pub returns : goal.returns
returns c = table_back c.args.printed.now c.args.on c.args.form.now c.args.entries.now c.in_ok-queues.queues.items
    c.as_mut_slice.result.now c.judge_any.new.queues c.in_ok-queues.queues.len (search rules)
    c.as_mut_slice.ensures.value c.in_ok-judged.judged c.in_ok-queues.ensures.queues c.judge_any.ensures.same
    c.in_ok-judged.ensures.judged c.in_ok-judged.ensures.told
