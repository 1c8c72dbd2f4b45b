use Rattle.bench_parts.proofs.Imports.{IsSeated}
use Rattle.bench_parts.proofs.boards.fill.Given as goal

abbrev pub invariant-loop-k : goal.invariant-loop-k
invariant-loop-k g l = IsSeated l.board l.desk
