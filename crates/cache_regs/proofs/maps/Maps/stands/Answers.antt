use Rattle.cache_regs.proofs.Imports.{ap, ◌∙◌, stands, RegList}
use Rattle.cache_regs.proofs.MapLaws.{stands_law}
use Rattle.cache_regs.proofs.maps.Maps.stands.Goals as goal

pub returns : goal.returns
returns c = c.contains_key.ensures ∙ stands_law c.self.inside.by_place.entries c.self.invariant.unique
    c.args.conn c.args.index ∙ ap (λ (v : RegList). stands v.regs c.args.conn c.args.index) c.self.view_is
