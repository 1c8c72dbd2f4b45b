-- The text of the policy is a script, and each script states a policy.
use Rattle.std.proofs.Common.{rules}
use Rattle.two_members.proofs.MemberLaws.{policy_of}
use Rattle.two_members.proofs.main.Goals as goal

pub members-requires : goal.members-requires
members-requires g c =
    (search rules, policy_of c.as_bytes.result.now c.in_ok-script.script c.in_ok-script.ensures.script)
