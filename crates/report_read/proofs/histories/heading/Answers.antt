use Rattle.report_fronts.specs.Slots.{history_slot}
use Rattle.report_read.proofs.EntryLaws.{line_short}
use Rattle.report_read.proofs.HistoryLaws.{heading_other}
use Rattle.report_read.proofs.histories.heading.Goals as goal

pub returns-in_default-clause-stop : goal.returns-in_default-clause-stop
returns-in_default-clause-stop c = line_short c.args.script.now c.args.text.now c.args.from
    (history_slot c.args.script.now c.args.number) c.requires.keeps c.in_default.ensures.none

pub returns-in-None-clause-stop : goal.returns-in-None-clause-stop
returns-in-None-clause-stop c = heading_other c.args.script.now c.args.number c.args.text.now
    c.args.from c.in-Some.line.now c.in-Some.to c.requires.keeps c.in-Some.ensures.found c.in-None.ensures.none
