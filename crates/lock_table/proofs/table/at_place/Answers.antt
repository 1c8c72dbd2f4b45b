use Rattle.lock_table.proofs.Imports.{◌∙◌, sym, nth_from_yields_List, YieldsList-from_first, at_is, owners_left, part_of}
use Rattle.lock_table.proofs.table.at_place.Goals as goal

pub returns-in-Some : goal.returns-in-Some
returns-in-Some c = nth_from_yields_List c.nth.result c.nth.new.self _ c.nth.ensures.ran
    (YieldsList-from_first (λ x. x.now) owners_left _ c.owners_on.ensures) ∙ rw c.saturating_sub.ensures
    (at_is part_of _ c.args.order.now c.args.k _ c.in-Some.r (rw c.requires.order c.requires.entries)
    (sym c.key_at.ensures ∙ c.in-Some.is) c.start_of-before.ensures)
