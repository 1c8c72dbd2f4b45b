use Rattle.struct_machine.specs.StructureView.{stands_at}
use Rattle.vector_waits.specs.Waits.{IsQueue}
use Rattle.history_check.specs.Queues.{HasTestsOf, IsAskedBehind, IsBegun, IsRising}
use Rattle.history_check.proofs.Asked.{begun_has, behind_has, begun_queue, has_through, start_asked}
use Rattle.history_check.proofs.Pairing.{pairs_all, pairs_then}
use Rattle.history_check.proofs.queues.start.Goals as goal

pub ask_behind-requires-after_bounds : goal.ask_behind-requires-after_bounds
ask_behind-requires-after_bounds g c κs within = pairs_all IsBegun IsRising (IsQueue 0) c.args.queues.now
    c.begin.new.queues begun_queue c.requires.rising c.begin.ensures

pub returns-clause-asked : goal.returns-clause-asked
returns-clause-asked g c = start_asked g.E.Engine.meaning c.args.machine.now.form c.args.machine.now.machine
    c.requires.opening c.args.queues.now c.begin.new.queues c.ask_behind.new.queues c.requires.rising c.begin.ensures
    c.ask_behind.ensures

pub returns-clause-same : goal.returns-clause-same
returns-clause-same g c = pairs_then IsBegun
    (IsAskedBehind 0 (stands_at g.E.Engine.meaning c.args.machine.now.machine)) HasTestsOf (λ x y z a b. has_through
    x y z (begun_has x y a) (behind_has 0 (stands_at g.E.Engine.meaning c.args.machine.now.machine) y z b))
    c.args.queues.now c.begin.new.queues c.ask_behind.new.queues c.begin.ensures c.ask_behind.ensures
