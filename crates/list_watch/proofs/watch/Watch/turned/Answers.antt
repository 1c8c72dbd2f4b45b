use Rattle.list_watch.proofs.Imports.{arith}
use Rattle.list_watch.proofs.MonitorLaws.{monitors-turn}
use Rattle.list_watch.proofs.watch.Watch.turned.Goals as goal

pub invariant_of-self : goal.invariant_of-self
invariant_of-self c = record {
  monitors = rw c.turn_all.ensures.rows (monitors-turn c.args.header c.args.full _ c.self.invariant.monitors);
  few = omega (arith, c.turn_all.ensures.len, c.self.invariant.few);
}
