-- One mark more tells what becomes of the machine behind the marks before it.
use Rattle.struct_machine.proofs.Imports.{arith, append-nil, kept_of, machine_of}
use Rattle.struct_machine.proofs.TurnLaws.{told_more}
use Rattle.struct_machine.proofs.losing.mark.Goals as goal

pub returns-in-Some-clause-told : goal.returns-in-Some-clause-told
returns-in-Some-clause-told g c = λ start cfs lead. rw (c.in-Some.is, c.push.ensures) (told_more g.E.Engine.meaning
    c.args.shell.now.form start (machine_of g.E.Engine.meaning c.args.shell.now (kept_of g.E.Engine.held
    c.args.content.now)) cfs c.args.marks.now (record { cf = c.in-Some.cf; lost = c.lose-told.result })
    lead.0 (grind arith) lead.1)

pub returns-in-None-clause-told : goal.returns-in-None-clause-told
returns-in-None-clause-told g c = grind (arith, append-nil)
