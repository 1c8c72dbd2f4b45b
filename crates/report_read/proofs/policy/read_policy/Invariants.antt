use Rattle.report_fronts.specs.Slots.{policy_lines}
use Rattle.report_read.specs.Reads.{AreFirstRead}
use Rattle.report_read.proofs.policy.read_policy.Given as goal

-- the lines before this one are read
abbrev pub invariant-loop-k : goal.invariant-loop-k
invariant-loop-k l = AreFirstRead l.script l.text l.fn.from (policy_lines l.script) l.k l.to
