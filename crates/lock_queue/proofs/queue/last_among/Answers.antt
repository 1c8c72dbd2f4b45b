use Rattle.lock_queue.proofs.Imports.{List, option_map, ap, sym, ◌∙◌, later_of, last_of, last_more, Waiter, part_of}
use Rattle.lock_queue.proofs.queue.last_among.Goals as goal

pub loop-waiter-preserved : goal.loop-waiter-preserved
loop-waiter-preserved c = last_more part_of _ _ _ c.in-Some.waiter.now c.next.new.self c.later_of-last.ensures (ap
    (λ (l : List Waiter). later_of part_of (option_map (λ waiter. waiter.now) c.loop-waiter.last) (last_of part_of l))
    (sym c.in-Some.ensures.steps) ∙ c.loop-waiter.invariant)
