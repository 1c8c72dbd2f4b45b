use Rattle.event_mail.proofs.Imports.{ap, arith, no_events, Post}
use Rattle.event_mail.proofs.PostLaws.{mailboxes_of-set}
use Rattle.event_mail.proofs.mail.Mail.clear.Goals as goal

pub returns-clause-boxes : goal.returns-clause-boxes
returns-clause-boxes c = mailboxes_of-set c.self.inside.boxes.items c.args.self.now.boxes c.args.conn
    c.from.result c.index_mut.result.now c.clear.new.self (λ _. no_events) (ap (λ (p : Post). p.boxes) c.self.view_is)
    c.from.ensures (omega arith) c.index_mut.ensures.value c.clear.ensures.mailbox
