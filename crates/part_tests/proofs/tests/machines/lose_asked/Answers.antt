use Rattle.engine_api.specs.{Instances.is_at, Rebuilds.fresh_of}
use Rattle.part_tests.proofs.AskedLaws.{asked_facility, asked_stands}
use Rattle.part_tests.proofs.tests.machines.lose_asked.Goals as goal

pub lose-requires-clause-facility : goal.lose-requires-clause-facility
lose-requires-clause-facility c κs = asked_facility
    c.asks-asked.result.first c.asks-asked.result.second c.in-Some.cf c.in-Some.is c.asks-asked.ensures.places

pub lose-requires-clause-there : goal.lose-requires-clause-there
lose-requires-clause-there c κs = asked_stands
    _ c.args.machine.now.machine.shell.instances.primary c.args.machine.now.machine.shell.instances.secondary
    c.asks-asked.result.first c.asks-asked.result.second c.asks-asked.result.stops c.in-Some.cf
    (is_at c.in-Some.cf (fresh_of c.args.machine.now.machine.shell.rebuild)) c.in-Some.is c.asks-asked.ensures.asks
