use Rattle.event_mail.proofs.Imports.{arith, get_or_default}
use Rattle.event_mail.proofs.PostLaws.{mailboxes_of-same, room_at-set}
use Rattle.event_mail.proofs.mail.reserve_each.Goals as goal

pub returns-in_err-reserve-clause-mailboxes : goal.returns-in_err-reserve-clause-mailboxes
returns-in_err-reserve-clause-mailboxes c = grind (arith, mailboxes_of-same)

pub loop-mailbox-preserved : goal.loop-mailbox-preserved
loop-mailbox-preserved c = grind (arith, mailboxes_of-same, room_at-set, get_or_default)
