use Rattle.std.proofs.Common.{arith, subst, sym}
use Rattle.std.proofs.lemmas.List.{length-map, with_items_is}
use Rattle.struct_machine.specs.StructureView.{stands_at}
use Rattle.vector_waits.specs.Waits.{IsQueue}
use Rattle.vector_waits.proofs.Waiting.{queue_behind}
use Rattle.vector_waits.proofs.queue.Queue.ask_behind.Goals as goal

pub returns-clause-queue : goal.returns-clause-queue
returns-clause-queue g c =
    queue_behind c.self.inside.conn c.self.inside.waits.items c.ask_behind-self-inside.new.waits
    c.as_mut_slice.result.now _ c.self.inside.next c.ask_behind-self-inside.result c.args.number
    (stands_at g.E.Engine.meaning c.args.machine.now.machine c.self.inside.conn) (subst (IsQueue c.args.number)
    (sym c.self.view_is) c.requires) c.as_mut_slice.ensures.value c.ask_behind-self-inside.ensures.waits
    c.ask_behind-self-inside.ensures.past (with_items_is c.self.inside.waits _ (grind (arith, length-map)))
