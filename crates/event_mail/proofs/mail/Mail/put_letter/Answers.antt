use Rattle.event_mail.proofs.Imports.{[], ◌∷◌, ◌++◌, ap, arith, Mailbox, Post}
use Rattle.event_mail.proofs.PostLaws.{mailboxes_of-set}
use Rattle.event_mail.proofs.mail.Mail.put_letter.Goals as goal

pub returns-clause-boxes : goal.returns-clause-boxes
returns-clause-boxes c =
    let posted : Mailbox → Mailbox = λ box. record box { waiting = box.waiting ++ c.args.letter.event ∷ [] } in
    mailboxes_of-set c.self.inside.boxes.items c.args.self.now.boxes c.args.letter.to c.from.result
    c.index_mut-mailbox.result.now c.put.new.self posted (ap (λ (p : Post). p.boxes) c.self.view_is) c.from.ensures
    (omega arith) c.index_mut-mailbox.ensures.value c.put.ensures.mailbox
