use Rattle.bench_parts.proofs.Imports.{◌≡◌, ◌<◌}
use Rattle.bench_parts.proofs.below.test_bits.Given as goal

abbrev pub invariant-loop-k : goal.invariant-loop-k
invariant-loop-k l = (l.pass.table ≡ l.vectors) × (0 < l.pass.owner)
