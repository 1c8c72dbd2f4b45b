use Rattle.report_fronts.specs.Slots.Slot.{Listed}
use Rattle.report_read.proofs.EntryLaws.{line_short}
use Rattle.report_read.proofs.TranscriptLaws.{item_other}
use Rattle.report_read.proofs.transcripts.one_item.Goals as goal

pub returns-in_default-clause-stop : goal.returns-in_default-clause-stop
returns-in_default-clause-stop c = line_short c.args.script.now c.args.text.now c.args.from Listed c.requires.keeps
    c.in_default.ensures.none

pub returns-in-None-clause-stop : goal.returns-in-None-clause-stop
returns-in-None-clause-stop c = item_other c.args.script.now c.args.text.now c.args.from c.in-Some.line.now c.in-Some.to
    c.requires.keeps c.in-Some.ensures.found c.in-None.ensures.none
