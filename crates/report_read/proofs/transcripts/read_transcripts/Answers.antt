use Rattle.std.proofs.Common.{rules, ◌≡◌, ◌+◌, length, Err}
use Rattle.plex_report.specs.Lines.{transcript_lines}
use Rattle.report_fronts.specs.Slots.{transcript_slot}
use Rattle.report_read.specs.Transcripts.{IsTranscript}
use Rattle.report_read.proofs.ManyLaws.{one_each, each_stops}
use Rattle.report_read.proofs.transcripts.read_transcripts.Goals as goal

pub returns-in_err-transcript-clause-stop : goal.returns-in_err-transcript-clause-stop
returns-in_err-transcript-clause-stop c =
    let same : c.from_residual.result ≡ Err c.in_err-transcript.field-0.0 = search (rules, c.from_residual.ensures) in
    rw same (each_stops c.args.script.now c.args.text.now c.args.from (transcript_slot c.args.script.now)
    (transcript_lines c.args.script.now) (λ x. IsTranscript c.args.script.now) c.loop-number.number
    (length c.args.script.now.connectors + 1) c.loop-number.transcripts c.loop-number.to
    c.in_err-transcript.field-0.0 c.loop-number.invariant (search rules) c.in_err-transcript.ensures.stop)

pub loop-number-preserved : goal.loop-number-preserved
loop-number-preserved c = rw c.in_ok-push.ensures.ok (one_each c.args.script.now c.args.text.now c.args.from
    (transcript_slot c.args.script.now) (transcript_lines c.args.script.now) (λ x. IsTranscript c.args.script.now)
    c.loop-number.number c.loop-number.transcripts c.in_ok-transcript.transcript c.loop-number.to
    c.in_ok-transcript.next c.loop-number.invariant c.in_ok-transcript.ensures.read.0
    c.in_ok-transcript.ensures.read.1)
