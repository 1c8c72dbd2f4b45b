use Rattle.std.proofs.Common.{rules, ◌≡◌, Err}
use Rattle.plex_report.specs.Lines.{shown_line}
use Rattle.report_lines.specs.Readable.{IsItem}
use Rattle.report_fronts.specs.Slots.Slot.{Listed}
use Rattle.report_read.proofs.ManyLaws.{one_read, one_stops}
use Rattle.report_read.proofs.transcripts.read_items.Goals as goal

pub returns-in_err-item-clause-stop : goal.returns-in_err-item-clause-stop
returns-in_err-item-clause-stop c =
    let same : c.from_residual.result ≡ Err c.in_err-item.field-0.0 = search (rules, c.from_residual.ensures) in
    rw same (one_stops c.args.script.now c.args.text.now c.args.from Listed (shown_line c.args.script.now)
    (IsItem c.args.script.now) c.loop.counter c.args.n c.loop.items c.loop.to c.in_err-item.field-0.0
    c.loop.invariant (search rules) c.in_err-item.ensures.stop)

pub loop-preserved : goal.loop-preserved
loop-preserved c = rw c.in_ok-push.ensures.ok (one_read c.args.script.now c.args.text.now c.args.from Listed
    (shown_line c.args.script.now) (IsItem c.args.script.now) c.loop.counter c.loop.items c.in_ok-item.item c.loop.to
    c.in_ok-item.next c.loop.invariant c.in_ok-item.ensures.read.0 c.in_ok-item.ensures.read.1)
