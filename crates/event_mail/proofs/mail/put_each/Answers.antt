-- A member's letter is the first of those that are left.
use Rattle.event_mail.proofs.Imports.{arith, cases_eq, mailboxes_of}
use Rattle.event_mail.proofs.CallerSets.{leads_member, leads_nobody, leads_all}
use Rattle.event_mail.proofs.mail.put_each.Goals as goal
use Rattle.event_mail.proofs.mail.put_each.Goals.{then-has, else-has}

pub loop-number-preserved : goal.loop-number-preserved
loop-number-preserved c = grind (arith, then-has, leads_member, else-has, leads_nobody, cases_eq)

pub returns-clause-mailboxes : goal.returns-clause-mailboxes
returns-clause-mailboxes c = leads_all c.args.to
    c.args.event c.loop-number.number _ (mailboxes_of c.loop-number.boxes) (omega arith) c.loop-number.invariant.letters
