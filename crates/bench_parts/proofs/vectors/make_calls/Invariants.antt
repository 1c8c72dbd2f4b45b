use Rattle.bench_parts.proofs.Imports.{◌≡◌, count_of}
use Rattle.bench_parts.proofs.vectors.make_calls.Given as goal

abbrev pub invariant-loop-made : goal.invariant-loop-made
invariant-loop-made l = (l.seat.table ≡ l.vectors) × (l.pass.table ≡ l.vectors) × (l.seat.number ≡ 0)
    × (count_of l.seat.log ≡ l.made-counter)
