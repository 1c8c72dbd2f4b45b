use Rattle.report_fronts.specs.Slots.Slot.{Entered}
use Rattle.report_read.proofs.EntryLaws.{line_short, entry_found, entry_missed}
use Rattle.report_read.proofs.entries.one_entry.Goals as goal

pub returns-in_default-clause-stop : goal.returns-in_default-clause-stop
returns-in_default-clause-stop g c = line_short c.args.script.now
    c.args.text.now c.args.from (Entered c.args.on) c.requires.keeps c.in_default.ensures.none

pub returns-in-None-clause-stop : goal.returns-in-None-clause-stop
returns-in-None-clause-stop g c = entry_missed g.E.EntryLine.prints g.E.EntryLine.may c.args.script.now
    c.args.on c.args.text.now c.args.from c.requires.shows c.in-Some.line.now c.in-Some.to
    c.in_ok-entry.field-0 c.requires.keeps c.in-Some.ensures.found c.in_ok-entry.ensures.none c.in-None.is

pub returns-in-Some-2-clause-read : goal.returns-in-Some-2-clause-read
returns-in-Some-2-clause-read g c = entry_found g.E.EntryLine.prints g.E.EntryLine.may c.args.script.now
    c.args.on c.args.text.now c.args.from c.requires.shows (g.E.EntryLine.meant c.args.script.now c.args.on)
    c.in-Some-2.entry c.in-Some.line.now c.in-Some.to c.in_ok-entry.field-0
    c.in-Some.ensures.found c.in_ok-entry.ensures.found c.in_ok-entry.ensures.picked c.in-Some-2.is
