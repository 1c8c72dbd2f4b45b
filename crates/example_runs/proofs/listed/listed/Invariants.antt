use Rattle.std.specs.Prelude.{◌≡◌, length}
use Rattle.example_runs.specs.declared.listed.TheConstants.{LINKS}
use Rattle.example_runs.proofs.listed.listed.Given as goal

-- no line changes how many links there are
abbrev pub invariant-loop-line : goal.invariant-loop-line
invariant-loop-line l = length l.links.items ≡ LINKS
