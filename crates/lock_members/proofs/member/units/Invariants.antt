use Rattle.lock_members.specs.Members.{IsHandOf, Stays}
use Rattle.lock_members.proofs.member.units.Given as goal

-- it is the same hand, of these locks
abbrev pub invariant-loop-number : goal.invariant-loop-number
invariant-loop-number l = IsHandOf l.locks l.hand × Stays l.fn.hand l.hand
