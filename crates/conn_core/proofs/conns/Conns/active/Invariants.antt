use Rattle.std.proofs.Common.{◌≡◌, filter}
use Rattle.cf_types.specs.{ConnSets.conns_from, Connections.is_active}
use Rattle.conn_core.proofs.conns.Conns.active.Given as goal

-- the active ones below this number
abbrev pub invariant-loop-number : goal.invariant-loop-number
invariant-loop-number l = l.set ≡ filter (is_active l.self) (conns_from 0 l.number)
