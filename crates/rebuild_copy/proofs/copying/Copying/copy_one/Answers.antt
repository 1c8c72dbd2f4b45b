use Rattle.rebuild_copy.proofs.Imports.{rules}
use Rattle.rebuild_copy.proofs.CopyLaws.{place-next, place-fits, after-place, copied-one}
use Rattle.rebuild_copy.proofs.copying.Copying.copy_one.Goals as goal
use Rattle.rebuild_copy.proofs.copying.Copying.copy_one.Goals.{in-Ok, in-Err}

pub place-requires-clause-next : goal.place-requires-clause-next
place-requires-clause-next g c =
    let from = g.met.E.Engine g.world.𝓛 g.world.𝓜 g.world.𝓡 ((λ s x. x), (λ x. x), (λ x. x), λ x. x) in
    place-next g.E.Engine.meaning g.E.Engine.is_kind g.E.Engine.is_content from.items_front
    from.unplace_front from.need_first (g.E.Engine.held c.self.inside.fresh) (g.E.Engine.held c.args.old.now)
    c.self.invariant c.args.self.now c.self.view_is c.requires.copy c.in_ok-item.item (search rules)

pub place-requires-clause-fits : goal.place-requires-clause-fits
place-requires-clause-fits g c =
    let from = g.met.E.Engine g.world.𝓛 g.world.𝓜 g.world.𝓡 ((λ s x. x), (λ x. x), (λ x. x), λ x. x) in
    place-fits g.E.Engine.meaning g.E.Engine.is_kind g.E.Engine.is_content from.items_front
    from.unplace_front from.need_first (g.E.Engine.held c.self.inside.fresh) (g.E.Engine.held c.args.old.now)
    c.self.invariant c.args.self.now c.self.view_is c.requires.copy c.in_ok-item.item (search rules)

pub invariant_of-self : goal.invariant_of-self
invariant_of-self g c =
    let from = g.met.E.Engine g.world.𝓛 g.world.𝓜 g.world.𝓡 ((λ s x. x), (λ x. x), (λ x. x), λ x. x) in
    after-place g.E.Engine.meaning g.E.Engine.is_kind g.E.Engine.is_content from.items_front
    from.unplace_front from.need_first (g.E.Engine.held c.self.inside.fresh) (g.E.Engine.held c.args.old.now)
    c.self.invariant c.args.self.now c.self.view_is c.requires.copy c.in_ok-item.item (search rules)
    c.place.result (g.E.Engine.held c.place.new.self) c.place.ensures.ok c.place.ensures.err

pub returns-clause-ok : goal.returns-clause-ok
returns-clause-ok g c =
    let from = g.met.E.Engine g.world.𝓛 g.world.𝓜 g.world.𝓡 ((λ s x. x), (λ x. x), (λ x. x), λ x. x) in
    let one = copied-one g.E.Engine.meaning
    g.E.Engine.is_kind g.E.Engine.is_content from.items_front from.unplace_front from.need_first
    (g.E.Engine.held c.self.inside.fresh) (g.E.Engine.held c.args.old.now) c.self.invariant c.args.self.now
    c.self.view_is c.requires.copy c.in_ok-item.item (search rules) (g.E.Engine.held c.place.new.self) in
    elim c.match-place.branch [ in-Ok w ↦ search rules | in-Err w ↦ search rules ]
