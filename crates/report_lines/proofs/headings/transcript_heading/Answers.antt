use Rattle.report_lines.proofs.HeadingLaws.{transcript_missed}
use Rattle.report_lines.proofs.headings.transcript_heading.Goals as goal

pub returns-clause-none : goal.returns-clause-none
returns-clause-none c =
    transcript_missed c.args.script.now c.requires.keeps c.args.number c.args.line.now c.requires.known
    c.items.result.now c.items.ensures c.caller_text.result.now c.caller_text.ensures c.number_in.result c.number_in.ensures
