use Rattle.report_lines.proofs.EntryLaws.{parts_told}
use Rattle.report_lines.proofs.PartLaws.{has_arrow, no_first, no_second, no_number, if_none}
use Rattle.report_lines.proofs.entries.parts.Goals as goal

pub returns-clause-found : goal.returns-clause-found
returns-clause-found c = parts_told _ _ _ _ _ _ _ _ c.in_ok-front.ensures.found c.in_ok-digits.ensures.found
    c.in_ok-who.ensures.found c.in_ok-no.ensures.value

pub returns-in_err-front-clause-none : goal.returns-in_err-front-clause-none
returns-in_err-front-clause-none c = if_none c.from_residual.result _ (λ n who done told cut.
    has_arrow c.args.line.now n who done told cut c.in_err-front.ensures.none)

pub returns-in_err-digits-clause-none : goal.returns-in_err-digits-clause-none
returns-in_err-digits-clause-none c = if_none c.from_residual-in_err-digits.result _ (λ n who done told cut.
    no_first c.args.line.now n who done told cut _ _ c.in_ok-front.ensures.found c.in_err-digits.ensures.none)

pub returns-in_err-who-clause-none : goal.returns-in_err-who-clause-none
returns-in_err-who-clause-none c = if_none c.from_residual-in_err-who.result _ (λ n who done told cut.
    no_second c.args.line.now n who done told cut _ _ _ _ c.in_ok-front.ensures.found c.in_ok-digits.ensures.found
    c.in_err-who.ensures.none)

pub returns-in_err-no-clause-none : goal.returns-in_err-no-clause-none
returns-in_err-no-clause-none c = if_none c.from_residual-in_err-no.result _ (λ n who done told cut.
    no_number c.args.line.now n who done told cut _ _ _ _ c.in_ok-front.ensures.found c.in_ok-digits.ensures.found
    c.in_err-no.ensures.value)
