use Rattle.std.proofs.Common.{rules}
use Rattle.report_read.proofs.TranscriptLaws.{told_none, told_many}
use Rattle.report_read.proofs.transcripts.items_told.Goals as goal

pub returns-in_default-clause-none : goal.returns-in_default-clause-none
returns-in_default-clause-none c = told_none c.args.script.now c.args.number c.args.line.now c.in_default.ensures.none

pub returns-then-is_empty-clause-none : goal.returns-then-is_empty-clause-none
returns-then-is_empty-clause-none c = told_many c.args.script.now c.args.number c.args.line.now c.in-Some.n
    (search rules) (search rules) (search rules) c.in-Some.ensures.found
