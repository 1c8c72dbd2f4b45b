use Rattle.std.proofs.Common.{◌<◌, length, ap, arith}
use Rattle.std.proofs.lemmas.Result.{err_from_is_err_and}
use Rattle.plex_report.specs.Lines.{history_lines}
use Rattle.report_fronts.specs.Slots.{history_slot}
use Rattle.report_read.specs.Histories.{IsHistory}
use Rattle.report_read.proofs.ManyLaws.{each_pushed, each_stops}
use Rattle.report_read.proofs.histories.read_histories.Goals as goal

pub returns-in_err-history-clause-stop : goal.returns-in_err-history-clause-stop
returns-in_err-history-clause-stop c =
    let size = ap (λ (l : _). length l) c.items-number-end.ensures in
    let low : c.loop-number.number < length c.args.script.now.structures = omega (arith, size) in
    let p = err_from_is_err_and c.from_residual.result c.from_residual.ensures.1 in
    rw (p.1, p.2) (each_stops c.args.script.now c.args.text.now c.args.from (history_slot c.args.script.now)
    (history_lines c.args.script.now) (IsHistory c.args.script.now) c.loop-number.number
    (length c.args.script.now.structures) c.loop-number.histories c.loop-number.to c.in_err-history.field-0.0
    c.loop-number.invariant low c.in_err-history.ensures.stop)

pub loop-number-preserved : goal.loop-number-preserved
loop-number-preserved c = each_pushed c.args.script.now c.args.text.now c.args.from (history_slot c.args.script.now)
    (history_lines c.args.script.now) (IsHistory c.args.script.now) c.loop-number.number c.loop-number.histories
    c.in_ok-history.history c.loop-number.to c.in_ok-history.next c.push.new.self c.loop-number.invariant
    c.in_ok-history.ensures.read.0 c.in_ok-history.ensures.read.1 c.in_ok-push.ensures.ok
