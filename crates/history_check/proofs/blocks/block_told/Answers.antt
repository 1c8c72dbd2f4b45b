use Rattle.struct_machine.specs.StructureView.{stands_at}
use Rattle.vector_waits.specs.Waits.{IsQueue}
use Rattle.history_check.specs.Queues.{HasTestsOf, IsAskedBefore, IsAskedBehind, IsToldAt}
use Rattle.history_check.proofs.Asked.{before_has, behind_has, has_through, before_queue}
use Rattle.history_check.proofs.Pairing.{pairs_all, pairs_then, pairs_weaker}
use Rattle.history_check.proofs.blocks.block_told.Goals as goal

pub returns-in_err-block_fits-clause-same : goal.returns-in_err-block_fits-clause-same
returns-in_err-block_fits-clause-same g c = pairs_weaker (IsAskedBefore c.args.number
    (stands_at g.E.Engine.meaning c.args.machine.now.machine)) HasTestsOf c.args.queues.now c.ask_before.new.queues
    (before_has c.args.number (stands_at g.E.Engine.meaning c.args.machine.now.machine)) c.ask_before.ensures

pub returns-then-not-branch-clause-same : goal.returns-then-not-branch-clause-same
returns-then-not-branch-clause-same g c = pairs_weaker (IsAskedBefore c.args.number
    (stands_at g.E.Engine.meaning c.args.machine.now.machine)) HasTestsOf c.args.queues.now c.ask_before.new.queues
    (before_has c.args.number (stands_at g.E.Engine.meaning c.args.machine.now.machine)) c.ask_before.ensures

pub ask_behind-requires-after_bounds : goal.ask_behind-requires-after_bounds
ask_behind-requires-after_bounds g c κs within =
    pairs_all (IsAskedBefore c.args.number (stands_at g.E.Engine.meaning c.args.machine.now.machine))
    (IsQueue c.args.number) (IsQueue c.args.number) c.args.queues.now c.ask_before.new.queues (before_queue
    c.args.number (stands_at g.E.Engine.meaning c.args.machine.now.machine)) c.requires.queues c.ask_before.ensures

pub returns-clause-told : goal.returns-clause-told
returns-clause-told g c fit =
    pairs_then (IsAskedBefore c.args.number (stands_at g.E.Engine.meaning c.args.machine.now.machine)) (IsAskedBehind
    c.args.number (stands_at g.E.Engine.meaning c.block_fits.new.machine.machine)) (IsToldAt g.E.Engine.meaning
    c.args.machine.now.machine c.block_fits.new.machine.machine c.args.number) (λ x y z a b. (y, a, b))
    c.args.queues.now c.ask_before.new.queues c.ask_behind.new.queues c.ask_before.ensures c.ask_behind.ensures

pub returns-clause-same : goal.returns-clause-same
returns-clause-same g c = pairs_then (IsAskedBefore c.args.number
    (stands_at g.E.Engine.meaning c.args.machine.now.machine)) (IsAskedBehind c.args.number
    (stands_at g.E.Engine.meaning c.block_fits.new.machine.machine)) HasTestsOf (λ x y z a b. has_through
    x y z (before_has c.args.number (stands_at g.E.Engine.meaning c.args.machine.now.machine) x y a)
    (behind_has c.args.number (stands_at g.E.Engine.meaning c.block_fits.new.machine.machine) y z b))
    c.args.queues.now c.ask_before.new.queues c.ask_behind.new.queues c.ask_before.ensures c.ask_behind.ensures
