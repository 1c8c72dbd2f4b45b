use Rattle.plex_locks.proofs.Imports.{sym, ap, ◌∙◌, word_of}
use Rattle.plex_locks.proofs.WorkLaws.{obtained, released}
use Rattle.plex_locks.proofs.worker.attempt.Goals as goal

pub returns-in-Obtain-clause-worked : goal.returns-in-Obtain-clause-worked
returns-in-Obtain-clause-worked c dones worked =
    let r = c.in-Obtain.r in
    let place = c.word_of.ensures.word ∙ ap (λ n. word_of n r) (c.requires.entries.0 ∙ sym c.requires.hand.1) in
    rw c.in-Obtain.is (obtained c.args.hand.now dones worked c.obtain.new.hand
    r c.word_of.result place c.obtain.result c.in-Obtain.excl c.obtain.ensures.held c.obtain.ensures.tried)

pub returns-in-Release-clause-worked : goal.returns-in-Release-clause-worked
returns-in-Release-clause-worked c dones worked =
    let r = c.in-Release.r in
    let place =
    c.word_of-in-Release.ensures.word ∙ ap (λ n. word_of n r) (c.requires.entries.0 ∙ sym c.requires.hand.1) in
    rw c.in-Release.is (released c.args.hand.now dones worked c.release.new.hand
    r c.word_of-in-Release.result place c.release.result c.release.ensures.held c.release.ensures.free)
