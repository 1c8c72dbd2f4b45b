use Rattle.report_fronts.specs.Slots.{transcript_slot}
use Rattle.report_read.proofs.EntryLaws.{line_short, line_other}
use Rattle.report_read.proofs.TranscriptLaws.{heading_read}
use Rattle.report_read.proofs.transcripts.read_heading.Goals as goal

pub returns-in_default-clause-stop : goal.returns-in_default-clause-stop
returns-in_default-clause-stop c = line_short c.args.script.now c.args.text.now c.args.from
    (transcript_slot c.args.script.now c.args.number) c.requires.keeps c.in_default.ensures.none

pub returns-in-Some-items_told-clause-read : goal.returns-in-Some-items_told-clause-read
returns-in-Some-items_told-clause-read c = heading_read c.args.script.now c.args.number c.args.text.now c.args.from
    c.in-Some-items_told.n c.in-Some.line.now c.in-Some.to c.in-Some.ensures.found c.in-Some-items_told.ensures.found

pub returns-in-None-clause-stop : goal.returns-in-None-clause-stop
returns-in-None-clause-stop c = line_other c.args.script.now c.args.text.now c.args.from c.in-Some.to
    (transcript_slot c.args.script.now c.args.number) c.in-Some.line.now c.requires.keeps c.in-Some.ensures.found
    c.in-None.ensures.none
