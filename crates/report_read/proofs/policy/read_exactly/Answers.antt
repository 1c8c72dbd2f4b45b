use Rattle.std.proofs.Common.{sym}
use Rattle.report_fronts.specs.Slots.Slot.{Exactly}
use Rattle.report_read.proofs.EntryLaws.{line_short}
use Rattle.report_read.proofs.PolicyLaws.{exactly_read, exactly_other}
use Rattle.report_read.proofs.policy.read_exactly.Goals as goal

pub returns-in_default-clause-stop : goal.returns-in_default-clause-stop
returns-in_default-clause-stop c = line_short c.args.script.now c.args.text.now c.args.from (Exactly c.args.wanted.now)
    c.requires.keeps c.in_default.ensures.none

pub returns-then-is-clause-read : goal.returns-then-is-clause-read
returns-then-is-clause-read c = exactly_read c.args.script.now c.args.text.now c.args.from c.args.wanted.now
    c.in-Some.line.now c.in-Some.to c.in-Some.ensures.found (sym c.if-is.ensures)

pub returns-else-is-clause-stop : goal.returns-else-is-clause-stop
returns-else-is-clause-stop c = exactly_other c.args.script.now c.args.text.now c.args.from c.args.wanted.now
    c.in-Some.line.now c.in-Some.to c.requires.keeps c.in-Some.ensures.found (sym c.if-is.ensures)
