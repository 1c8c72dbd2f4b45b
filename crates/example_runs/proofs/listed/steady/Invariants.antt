use Rattle.std.specs.Prelude.{◌≡◌, length}
use Rattle.example_runs.proofs.listed.steady.Given as goal

-- so many links were made as turns were
abbrev pub invariant-loop : goal.invariant-loop
invariant-loop l = length l.links.items ≡ l.counter
