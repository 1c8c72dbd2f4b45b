use Rattle.std.proofs.Common.{rules}
use Rattle.caller_walk.proofs.RunLaws.{run_rests}
use Rattle.caller_walk.proofs.running.run.Goals as goal

pub returns : goal.returns
returns c = c.loop-kind.invariant.through _ _ (run_rests _ _ _ _ _ _ _ (search rules))
