use Rattle.event_mail.proofs.Imports.{[], ◌∷◌, ◌++◌, arith, refl, get_or, Box, Mailbox, get_or_default, get_or-set_at, get_or-set_other, mailboxes_of}
use Rattle.event_mail.proofs.PostLaws.{mailboxes_of-set}
use Rattle.event_mail.proofs.mail.put_at.Goals as goal

pub returns-clause-mailboxes : goal.returns-clause-mailboxes
returns-clause-mailboxes c =
    let posted : Mailbox → Mailbox = λ box. record box { waiting = box.waiting ++ c.args.event ∷ [] } in
    let before : Box = get_or c.args.boxes.now c.from.result c.put.new.self in
    mailboxes_of-set c.args.boxes.now (mailboxes_of c.args.boxes.now) c.args.conn c.from.result before c.put.new.self
    posted refl c.from.ensures (grind arith) (grind (arith, get_or_default)) (grind (arith, get_or_default))

pub returns-clause-less : goal.returns-clause-less
returns-clause-less c = λ d. grind (arith, get_or-set_at, get_or_default)

pub returns-clause-others : goal.returns-clause-others
returns-clause-others c = λ k d apart. grind (arith, get_or-set_other)
