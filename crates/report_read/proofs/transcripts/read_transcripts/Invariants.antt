use Rattle.plex_report.specs.Lines.{transcript_lines}
use Rattle.report_fronts.specs.Slots.{transcript_slot}
use Rattle.report_read.specs.Reads.{AreEachRead}
use Rattle.report_read.specs.Transcripts.{IsTranscript}
use Rattle.report_read.proofs.transcripts.read_transcripts.Given as goal

-- the transcripts of the callers before this one are read
abbrev pub invariant-loop-number : goal.invariant-loop-number
invariant-loop-number l =
    AreEachRead l.script l.text l.fn.from (transcript_slot l.script) (transcript_lines l.script)
    (λ x. IsTranscript l.script) l.number l.transcripts l.to
