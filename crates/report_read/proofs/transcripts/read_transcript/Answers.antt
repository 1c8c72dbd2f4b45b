use Rattle.std.proofs.Common.{rules}
use Rattle.report_read.proofs.TranscriptLaws.{transcript_read}
use Rattle.report_read.proofs.transcripts.read_transcript.Goals as goal

pub returns-clause-read : goal.returns-clause-read
returns-clause-read c = transcript_read c.args.script.now c.args.number c.args.text.now c.args.from c.in_ok-n.n
    c.in_ok-items.items c.in_ok-n.behind c.in_ok-items.to (search rules) c.in_ok-n.ensures.read
    c.in_ok-items.ensures.read
