use Rattle.lock_core.proofs.Imports.{◌≡◌, ◌++◌, drop, each_once}
use Rattle.lock_core.proofs.departures.each_once.Given as goal

abbrev pub invariant-loop-k : goal.invariant-loop-k
invariant-loop-k l = l.list.items ++ each_once (drop l.k l.sorted) ≡ each_once l.sorted
