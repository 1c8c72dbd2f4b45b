use Rattle.rebuild_copy.proofs.CopyLaws.{started}
use Rattle.rebuild_copy.proofs.copying.Copying.start.Goals as goal

pub invariant_of-result : goal.invariant_of-result
invariant_of-result g c =
    let from = g.met.E.Engine g.world.𝓛 g.world.𝓜 g.world.𝓡 ((λ s x. x), (λ x. x), (λ x. x), λ x. x) in
    started g.E.Engine.meaning g.E.Engine.is_kind g.E.Engine.is_content from.content_empty from.items_empty
    (g.E.Engine.held c.args.fresh) c.requires
