use Rattle.report_read.proofs.WholeLaws.{behind_read}
use Rattle.report_read.proofs.report.read_behind.Goals as goal

pub returns-clause-read : goal.returns-clause-read
returns-clause-read c = behind_read c.args.script.now c.args.text.now c.args.from c.in_ok-transcripts.transcripts
    c.in_ok-transcripts.to c.in_ok-transcripts.ensures.read c.in_ok-read_end.ensures.read
