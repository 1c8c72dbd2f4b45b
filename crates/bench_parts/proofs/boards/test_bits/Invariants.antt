use Rattle.bench_parts.proofs.Imports.{IsSeated}
use Rattle.bench_parts.proofs.boards.test_bits.Given as goal

abbrev pub invariant-loop-k : goal.invariant-loop-k
invariant-loop-k l = IsSeated l.board l.desk
