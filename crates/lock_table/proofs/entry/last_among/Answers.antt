use Rattle.lock_table.proofs.Imports.{List, option_map, ap, sym, ◌∙◌, later_of, last_of, last_more, Held, part_of}
use Rattle.lock_table.proofs.entry.last_among.Goals as goal

pub loop-held-preserved : goal.loop-held-preserved
loop-held-preserved c = last_more part_of _ _ _ c.in-Some.held.now c.next.new.self c.later_of-last.ensures
    (ap (λ (l : List Held). later_of part_of (option_map (λ held. held.now) c.loop-held.last) (last_of part_of l))
    (sym c.in-Some.ensures.steps) ∙ c.loop-held.invariant)
