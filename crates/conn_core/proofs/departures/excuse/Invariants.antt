use Rattle.std.proofs.Common.{◌≡◌, ◌++◌, map, take, drop}
use Rattle.cf_types.specs.Connections.{excused_state}
use Rattle.conn_core.proofs.departures.excuse.Given as goal

-- the states before this place are excused
abbrev pub invariant-loop-state : goal.invariant-loop-state
invariant-loop-state l = l.states ≡ map (excused_state l.conn)
    (take l.state-index l.fn.states) ++ drop l.state-index l.fn.states
