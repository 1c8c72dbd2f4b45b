use Rattle.cf_types.proofs.Imports.{arith, rules, common_steps, term_byte}
use Rattle.cf_types.proofs.TermFaults.{passes_at_none, fails_at_some}
use Rattle.cf_types.proofs.names.checked.Goals as goal

pub returns-in-Some-clause-term : goal.returns-in-Some-clause-term
returns-in-Some-clause-term c =
    let fails = fails_at_some term_byte c.args.text.now c.in-Some.at (cc) in
    (λ wrong. absurd (cc), λ term. let passes = term.characters in cc)

pub returns-in-None-clause-term : goal.returns-in-None-clause-term
returns-in-None-clause-term c = grind (arith, common_steps, passes_at_none)

-- the wrong body limit_itself_is_too_long is refused at this goal
pub returns-then-text-limit-clause-term : goal.returns-then-text-limit-clause-term
returns-then-text-limit-clause-term c = search rules
