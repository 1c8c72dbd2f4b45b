use Rattle.lock_table.proofs.Imports.{◌∙◌, nth_from_yields_List, YieldsList-from_first, found, placed_some, owners_left, part_of}
use Rattle.lock_table.proofs.table.at_on.Goals as goal

pub returns : goal.returns
returns c = nth_from_yields_List c.nth.result c.nth.new.self _ c.nth.ensures.ran (YieldsList-from_first
    (λ x. x.now) owners_left _ c.owners_on.ensures) ∙ placed_some part_of c.args.r.now _ c.args.k _ _
    c.count_before-before.ensures c.if-k-before.false (found part_of c.args.r.now _ _ c.requires.entries)
