use Rattle.block_laws.proofs.Stands.{first_stands, other_stands, no_third}
use Rattle.block_laws.proofs.steps.marks_stand.Goals as goal

pub returns-clause-first : goal.returns-clause-first
returns-clause-first g c machine by ask cf more marked =
    first_stands g.E.Engine.meaning c.args.form.now machine by ask cf more marked

pub returns-clause-other : goal.returns-clause-other
returns-clause-other g c machine by ask cf other more marked =
    other_stands g.E.Engine.meaning c.args.form.now machine by ask cf other more marked

pub returns-clause-two : goal.returns-clause-two
returns-clause-two g c machine by ask cf other third more marked =
    no_third g.E.Engine.meaning c.args.form.now machine by ask cf other third more marked
