use Rattle.cache_regs.proofs.Imports.{ap, ◌∙◌, registered_at, RegList}
use Rattle.cache_regs.proofs.MapLaws.{at_law}
use Rattle.cache_regs.proofs.maps.Maps.at.Goals as goal

pub returns : goal.returns
returns c = c.copied.ensures ∙ c.get.ensures.value ∙ at_law c.self.inside.by_place.entries c.self.invariant.unique
    c.args.conn c.args.index ∙ ap (λ (v : RegList). registered_at v.regs c.args.conn c.args.index) c.self.view_is
