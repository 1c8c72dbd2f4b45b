use Rattle.bench_parts.proofs.Imports.{IsFree}
use Rattle.bench_parts.proofs.rounds.run.Given as goal

-- the hand holds nothing between rounds
abbrev pub invariant-loop : goal.invariant-loop
invariant-loop l = IsFree l.locks l.hand
