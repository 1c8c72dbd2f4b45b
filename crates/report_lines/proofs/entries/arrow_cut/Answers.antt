use Rattle.report_lines.proofs.PartLaws.{arrow_mark, if_none}
use Rattle.report_lines.proofs.entries.arrow_cut.Goals as goal

pub returns-in_err-front-clause-none : goal.returns-in_err-front-clause-none
returns-in_err-front-clause-none c = if_none c.from_residual-in_err-front.result _ (λ front told e free.
    c.in_err-front.ensures.none front (arrow_mark c.args.line.now c.in_ok-before.before.now c.in_ok-before.behind.now
    front told c.in_ok-before.ensures.found e free).0)

pub returns-in_err-told-clause-none : goal.returns-in_err-told-clause-none
returns-in_err-told-clause-none c = if_none c.from_residual-in_err-told.result _ (λ front told e free.
    c.in_err-told.ensures.none told (arrow_mark c.args.line.now c.in_ok-before.before.now c.in_ok-before.behind.now
    front told c.in_ok-before.ensures.found e free).1)
