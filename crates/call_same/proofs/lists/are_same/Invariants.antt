use Rattle.std.proofs.Common.{◌≡◌, take}
use Rattle.call_same.proofs.lists.are_same.Given as goal

-- they are the same so far
abbrev pub invariant-loop-k : goal.invariant-loop-k
invariant-loop-k g l = take l.k l.fn.one ≡ take l.k l.fn.other
