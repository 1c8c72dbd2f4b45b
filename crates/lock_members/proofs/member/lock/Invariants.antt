use Rattle.lock_members.specs.Members.{IsHandOf, Stays}
use Rattle.lock_members.proofs.member.lock.Given as goal

-- it is the same hand, of these locks
abbrev pub invariant-loop : goal.invariant-loop
invariant-loop l = IsHandOf l.locks l.hand × Stays l.fn.hand l.hand
