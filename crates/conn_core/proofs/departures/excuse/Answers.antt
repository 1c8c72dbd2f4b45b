use Rattle.std.proofs.Common.{arith}
use Rattle.std.proofs.lemmas.List.Edits.{map_over_more}
use Rattle.cf_types.specs.Connections.{excused_state}
use Rattle.conn_core.proofs.departures.excuse.Goals as goal

pub loop-state-preserved : goal.loop-state-preserved
loop-state-preserved c = rw (c.excused_state.ensures, ← c.state-item.is)
    (map_over_more (excused_state c.args.conn) c.args.states.now c.loop-state.states
    c.loop-state.state-index c.state-item.result (omega arith) c.loop-state.invariant c.state-item.is)
