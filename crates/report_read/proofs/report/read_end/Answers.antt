use Rattle.std.proofs.Common.{rules}
use Rattle.report_read.proofs.WholeLaws.{end_read, end_more}
use Rattle.report_read.proofs.report.read_end.Goals as goal

pub returns-then-to-text-clause-stop : goal.returns-then-to-text-clause-stop
returns-then-to-text-clause-stop c = end_more c.args.script.now c.args.text.now c.args.from c.in_ok-to.to
    c.requires.keeps c.in_ok-to.ensures.read (search rules)

pub returns-clause-read : goal.returns-clause-read
returns-clause-read c = end_read c.args.script.now c.args.text.now c.args.from c.in_ok-to.to c.in_ok-to.ensures.read
    (search rules)
