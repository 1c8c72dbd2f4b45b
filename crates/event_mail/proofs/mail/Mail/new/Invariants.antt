use Rattle.event_mail.proofs.Imports.{◌≡◌, replicate, no_events, mailboxes_of}
use Rattle.event_mail.proofs.mail.Mail.new.Given as goal

-- so many mailboxes without events
abbrev pub invariant-loop-number : goal.invariant-loop-number
invariant-loop-number l = mailboxes_of l.boxes.items ≡ replicate l.number no_events
