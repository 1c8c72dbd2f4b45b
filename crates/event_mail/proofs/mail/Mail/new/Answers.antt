use Rattle.event_mail.proofs.Imports.{◌≡◌, ℕ, replicate, ◌∙◌, ap, arith, CALLERS, Mailboxes, no_events, empty_mail}
use Rattle.event_mail.proofs.mail.Mail.new.Goals as goal

all_empty : (n : ℕ) (mail : Mailboxes) → n ≡ CALLERS → mail ≡ replicate n no_events → mail ≡ empty_mail
unfolding empty_mail
all_empty n mail all is = is ∙ ap (λ (m : ℕ). replicate m no_events) all

pub returns : goal.returns
returns c = all_empty c.loop-number.number _ (omega arith) c.loop-number.invariant
