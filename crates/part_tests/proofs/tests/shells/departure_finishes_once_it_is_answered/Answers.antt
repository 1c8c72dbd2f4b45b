use Rattle.std.proofs.Common.{refl}
use Rattle.engine_api.specs.CfTypes.Connections.{no_connections}
use Rattle.part_tests.proofs.tests.shells.departure_finishes_once_it_is_answered.Goals as goal

pub connect-requires-clause-idle : goal.connect-requires-clause-idle
unfolding no_connections
connect-requires-clause-idle g c = rw c.new-conns.ensures refl

pub connect-requires-2-clause-idle : goal.connect-requires-2-clause-idle
unfolding no_connections
connect-requires-2-clause-idle g c = rw (c.connect.ensures.state, c.new-conns.ensures) refl

pub depart-requires : goal.depart-requires
unfolding no_connections
depart-requires g c = rw (c.connect-2.ensures.state, c.connect.ensures.state, c.new-conns.ensures) refl
