use Rattle.lock_core.proofs.Imports.{◌≡◌, ◌+◌, ◌++◌, length, grant, HasRoom}
use Rattle.lock_core.proofs.grants.grant.Given as goal

abbrev pub invariant-loop-w : goal.invariant-loop-w
invariant-loop-w l = ((grant l.r l.locks.content).content ≡ (grant l.r l.initial.locks.content).content)
    × (l.out.mail.items ++ (grant l.r l.locks.content).letters ≡ l.initial.out.mail.items ++ (grant
    l.r l.initial.locks.content).letters) × (l.initial.out.mail.room +
    length (grant l.r l.locks.content).letters ≡ l.out.mail.room + length (grant l.r l.initial.locks.content).letters)
    × (l.out.bits ≡ l.initial.out.bits) × HasRoom 0 l.locks × (l.locks.limit ≡ l.initial.locks.limit)
    × (length l.locks.content.waiters + length (grant l.r l.initial.locks.content).letters ≡ length
    l.initial.locks.content.waiters + length (grant l.r l.locks.content).letters)

abbrev pub decreases-loop-w : goal.decreases-loop-w
decreases-loop-w l = length l.locks.content.waiters
