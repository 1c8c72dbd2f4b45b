use Rattle.event_mail.proofs.Imports.{ap, arith, box_taken, Post}
use Rattle.event_mail.proofs.PostLaws.{mailboxes_of-set}
use Rattle.event_mail.proofs.mail.Mail.next.Goals as goal

pub returns-clause-boxes : goal.returns-clause-boxes
returns-clause-boxes c = mailboxes_of-set c.self.inside.boxes.items c.args.self.now.boxes c.args.conn
    c.from.result c.index_mut-mailbox.result.now c.take.new.self box_taken (ap (λ (p : Post). p.boxes) c.self.view_is)
    c.from.ensures (omega arith) c.index_mut-mailbox.ensures.value c.take.ensures.mailbox
