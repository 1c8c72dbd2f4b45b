use Rattle.std.proofs.Common.{refl}
use Rattle.cf_types.specs.Connections.{no_connections}
use Rattle.conn_core.proofs.conns.Conns.new.Goals as goal

pub returns : goal.returns
unfolding no_connections
returns c = refl
