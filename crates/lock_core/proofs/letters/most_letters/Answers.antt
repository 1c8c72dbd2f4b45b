use Rattle.lock_core.proofs.Imports.{arith, Content}
use Rattle.lock_model.specs.Commands.Alter as alter
use Rattle.lock_core.proofs.LetterLaws.{alter_few}
use Rattle.lock_core.proofs.letters.most_letters.Goals as goal

pub returns-in-Alter : goal.returns-in-Alter
returns-in-Alter c by =
    let content : Content = record {
      interests = c.locks.inside.interests.interests;
      waiters = c.locks.inside.queue.waiters;
    } in
    let w = alter.request by c.in-Alter.r c.in-Alter.excl c.in-Alter.rec in
    rw (← c.locks.view_is, c.in-Alter.is) (omega (arith, alter_few w content, c.count_of.ensures.count))
