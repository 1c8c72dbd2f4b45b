use Rattle.struct_cell.proofs.Imports.{arith, rules, ap, sym, ◌∙◌}
use Rattle.struct_cell.proofs.ToldLaws.{closed_mine, closed_known, closed_tests, closed_rebuild, closed_stops, closed_links, same_tables, same_shown}
use Rattle.struct_cell.proofs.cell.Cell.close.Goals as goal

pub learn_all-requires-clause-passes : goal.learn_all-requires-clause-passes
learn_all-requires-clause-passes g c =
    same_tables c.args.self.words c.self.inside.vectors c.args.passes.items c.as_mut_slice.result.now
    (ap (λ k. k.words) (sym c.self.view_is) ∙ c.self.invariant.0) (search rules) c.requires.passes

pub returns-clause-callers : goal.returns-clause-callers
returns-clause-callers g c = grind arith

pub returns-clause-mine : goal.returns-clause-mine
returns-clause-mine g c = closed_mine g.L.Link.calls g.L.Link.downs g.L.Link.faults g.E.Engine.meaning
    c.self.inside.lock.key c.args.self _ _ _ c.ended-inside.result.journal.items c.from_vec.result
    _ c.args.passes.items c.ended-inside.ensures c.self.view_is c.from_vec.ensures (grind (arith, same_shown))

pub returns-clause-known : goal.returns-clause-known
returns-clause-known g c = closed_known g.L.Link.calls g.L.Link.downs g.L.Link.faults g.E.Engine.meaning
    c.self.inside.lock.key c.args.self _ _ _ c.ended-inside.result.journal.items c.from_vec.result
    _ c.args.passes.items c.ended-inside.ensures c.self.view_is c.from_vec.ensures (grind (arith, same_shown))

pub returns-clause-tests : goal.returns-clause-tests
returns-clause-tests g c = closed_tests g.L.Link.calls g.L.Link.downs g.L.Link.faults g.E.Engine.meaning
    c.self.inside.lock.key c.args.self _ _ _ c.ended-inside.result.journal.items c.from_vec.result
    _ c.args.passes.items c.ended-inside.ensures c.self.view_is c.from_vec.ensures c.requires.passes (same_shown
    c.ended-inside.result.seat c.args.passes.items c.as_mut_slice.result.now (search rules) c.learn_all.ensures.shown)

pub returns-clause-links : goal.returns-clause-links
returns-clause-links g c = grind arith

pub returns-clause-told : goal.returns-clause-told
returns-clause-told g c = closed_rebuild g.L.Link.calls g.L.Link.downs g.L.Link.faults g.E.Engine.meaning
    c.self.inside.lock.key c.args.self _ _ _ c.ended-inside.result.journal.items c.from_vec.result
    _ c.args.passes.items c.ended-inside.ensures c.self.view_is c.from_vec.ensures

pub returns-clause-stops : goal.returns-clause-stops
returns-clause-stops g c = closed_stops g.L.Link.calls g.L.Link.downs g.L.Link.faults g.E.Engine.meaning
    c.self.inside.lock.key c.args.self _ _ _ c.ended-inside.result.journal.items c.from_vec.result
    _ c.args.passes.items c.ended-inside.ensures c.self.view_is c.from_vec.ensures

pub returns-clause-linked : goal.returns-clause-linked
returns-clause-linked g c =
    let laws = g.met.L.Link g.world.𝓛 g.world.𝓜 g.world.𝓡 ((λ s x. x), (λ x. x), (λ x. x), λ x. x) in
    closed_links g.L.Link.calls g.L.Link.downs g.L.Link.faults g.E.Engine.meaning
    c.self.inside.lock.key c.args.self _ _ _ c.ended-inside.result.journal.items c.from_vec.result
    _ c.args.passes.items c.ended-inside.ensures c.self.view_is c.from_vec.ensures laws.tells_enough
    c.into_parts-parts.result.links (search rules)
