use Rattle.list_watch.proofs.Imports.{arith}
use Rattle.list_watch.proofs.MonitorLaws.{monitors-filter}
use Rattle.list_watch.proofs.watch.Watch.clear.Goals as goal

pub invariant_of-self : goal.invariant_of-self
invariant_of-self c = record {
  monitors = rw c.end.ensures.rows (monitors-filter _ _ c.self.invariant.monitors);
  few = omega (arith, c.end.ensures.fewer, c.self.invariant.few);
}
