-- The parts behind a lost facility are of the form.
use Rattle.struct_machine.proofs.Imports.{arith, kept_of}
use Rattle.struct_machine.proofs.{LossLaws.ending, LossLaws.kept_lost}
use Rattle.struct_machine.proofs.losing.lose.Goals as goal

pub end_lost-requires-clause-ending : goal.end_lost-requires-clause-ending
end_lost-requires-clause-ending g c κs within = grind (arith, ending)

pub returns-clause-of_form : goal.returns-clause-of_form
returns-clause-of_form g c =
    kept_lost g.E.Engine.meaning c.args.shell.now (kept_of g.E.Engine.held c.args.content.now) c.requires.of_form
    c.args.cf c.lost-told.result c.lost-told.ensures.told c.lost-told.new.self (kept_of g.E.Engine.held
    c.end_lost.new.content) c.lost-told.ensures.form c.lost-told.ensures.shell c.end_lost.ensures.kept (grind arith)
