use Rattle.report_fronts.specs.Slots.Slot.{Entered}
use Rattle.report_read.specs.Reads.{AreRead}
use Rattle.report_read.proofs.entries.read_entries.Given as goal

abbrev pub invariant-loop : goal.invariant-loop
invariant-loop g l = AreRead l.script l.text l.fn.from (Entered l.on) (g.E.EntryLine.prints l.script)
    (λ entry. g.E.EntryLine.may l.script l.on entry × g.E.EntryLine.meant l.script l.on entry) l.counter l.entries l.to
