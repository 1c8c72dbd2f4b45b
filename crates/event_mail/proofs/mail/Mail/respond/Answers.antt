use Rattle.event_mail.proofs.Imports.{drop, ap, arith, Mailbox, Post}
use Rattle.event_mail.proofs.PostLaws.{mailboxes_of-set}
use Rattle.event_mail.proofs.mail.Mail.respond.Goals as goal

pub returns-clause-boxes : goal.returns-clause-boxes
returns-clause-boxes c =
    let answered : Mailbox → Mailbox = λ box. record box { owed = drop 1 box.owed } in
    mailboxes_of-set c.self.inside.boxes.items c.args.self.now.boxes c.args.conn c.from.result
    c.index_mut-mailbox.result.now c.answer.new.self answered (ap (λ (p : Post). p.boxes) c.self.view_is)
    c.from.ensures (omega arith) c.index_mut-mailbox.ensures.value c.answer.ensures.mailbox
