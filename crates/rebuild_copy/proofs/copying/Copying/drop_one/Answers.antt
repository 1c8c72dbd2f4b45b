use Rattle.rebuild_copy.proofs.Imports.{rules}
use Rattle.rebuild_copy.proofs.CopyLaws.{dropped-filled, dropped-one}
use Rattle.rebuild_copy.proofs.copying.Copying.drop_one.Goals as goal

pub invariant_of-self : goal.invariant_of-self
invariant_of-self g c =
    let from = g.met.E.Engine g.world.𝓛 g.world.𝓜 g.world.𝓡 ((λ s x. x), (λ x. x), (λ x. x), λ x. x) in
    rw c.unplace.ensures (dropped-filled g.E.Engine.meaning g.E.Engine.is_kind g.E.Engine.is_content from.items_front
    from.unplace_front from.need_first (g.E.Engine.held c.self.inside.fresh) c.self.invariant (search rules))

pub returns : goal.returns
returns g c =
    let from = g.met.E.Engine g.world.𝓛 g.world.𝓜 g.world.𝓡 ((λ s x. x), (λ x. x), (λ x. x), λ x. x) in
    dropped-one g.E.Engine.meaning g.E.Engine.is_kind g.E.Engine.is_content from.items_front
    from.unplace_front from.need_first (g.E.Engine.held c.self.inside.fresh) c.self.invariant
    (search rules) (g.E.Engine.held c.unplace.new.self) c.args.self.now c.self.view_is c.unplace.ensures
