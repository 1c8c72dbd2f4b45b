-- The text of the policy is a script, and each script states a policy.
use Rattle.failover.proofs.SeatLaws.{policy_of}
use Rattle.failover.proofs.main.Goals as goal

pub fail_over-requires : goal.fail_over-requires
fail_over-requires g c = policy_of c.as_bytes.result.now c.in_ok-script.script c.in_ok-script.ensures.script
