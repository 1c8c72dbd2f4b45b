use Rattle.std.proofs.Common.{rules, ◌≡◌, Err}
use Rattle.report_read.proofs.WholeLaws.{rest_stop, report_read}
use Rattle.report_read.proofs.report.read_report.Goals as goal

pub returns-in_err-transcripts-clause-line : goal.returns-in_err-transcripts-clause-line
returns-in_err-transcripts-clause-line c =
    let same : c.from_residual-in_err-transcripts.result ≡ Err c.in_err-transcripts.field-0.0
    = search (rules, c.from_residual-in_err-transcripts.ensures) in
    rw same (rest_stop c.args.script.now c.args.text.now c.in_ok-behind.behind c.in_ok-histories.to
    c.in_ok-histories.histories c.in_err-transcripts.field-0.0 c.in_ok-behind.ensures.read
    c.in_ok-histories.ensures.read c.in_err-transcripts.ensures.stop)

pub returns-clause-report : goal.returns-clause-report
returns-clause-report c = report_read c.args.script.now c.args.text.now c.in_ok-behind.behind c.in_ok-histories.to
    c.in_ok-histories.histories c.in_ok-transcripts.transcripts c.in_ok-behind.ensures.read
    c.in_ok-histories.ensures.read c.in_ok-transcripts.ensures.read

pub returns-clause-picked : goal.returns-clause-picked
returns-clause-picked c = λ x entries there. (c.in_ok-histories.ensures.read.each x entries there).picked
