use Rattle.lock_core.proofs.Imports.{◌≡◌, take, waiting_for}
use Rattle.lock_core.proofs.letters.most_left.Given as goal

abbrev pub invariant-loop-r : goal.invariant-loop-r
invariant-loop-r l = l.letters ≡ waiting_for l.locks.content.waiters (take l.r-index l.resources)
