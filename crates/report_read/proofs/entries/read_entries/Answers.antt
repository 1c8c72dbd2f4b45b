use Rattle.std.proofs.Common.{◌<◌, arith}
use Rattle.std.proofs.lemmas.Result.{err_from_is_err_and}
use Rattle.report_fronts.specs.Slots.Slot.{Entered}
use Rattle.report_read.proofs.ManyLaws.{one_pushed, one_stops}
use Rattle.report_read.proofs.entries.read_entries.Goals as goal

pub returns-in_err-entry-clause-stop : goal.returns-in_err-entry-clause-stop
returns-in_err-entry-clause-stop g c =
    let low : c.loop.counter < c.args.n = omega arith in
    let p = err_from_is_err_and c.from_residual.result c.from_residual.ensures.1 in
    rw (p.1, p.2) (one_stops c.args.script.now c.args.text.now c.args.from (Entered c.args.on)
    (g.E.EntryLine.prints c.args.script.now) (λ entry. g.E.EntryLine.may c.args.script.now c.args.on entry
    × g.E.EntryLine.meant c.args.script.now c.args.on entry) c.loop.counter c.args.n
    c.loop.entries c.loop.to c.in_err-entry.field-0.0 c.loop.invariant low c.in_err-entry.ensures.stop)

pub loop-preserved : goal.loop-preserved
loop-preserved g c = one_pushed c.args.script.now c.args.text.now c.args.from (Entered c.args.on)
    (g.E.EntryLine.prints c.args.script.now) (λ entry. g.E.EntryLine.may c.args.script.now c.args.on entry
    × g.E.EntryLine.meant c.args.script.now c.args.on entry)
    c.loop.counter c.loop.entries c.in_ok-entry.entry c.loop.to c.in_ok-entry.next c.push.new.self
    c.loop.invariant c.in_ok-entry.ensures.read.0 c.in_ok-entry.ensures.read.1 c.in_ok-push.ensures.ok
