use Rattle.cache_regs.proofs.Imports.{ap, ◌∙◌, list_any, is_for, RegList}
use Rattle.cache_regs.proofs.AgreeLaws.{named_law}
use Rattle.cache_regs.proofs.maps.Maps.is_registered.Goals as goal

pub returns : goal.returns
returns c = c.contains_key.ensures
    ∙ named_law c.self.inside.by_place.entries c.self.inside.by_name.entries c.self.invariant c.args.conn
    c.args.name.now ∙ ap (λ (v : RegList). list_any (is_for c.args.conn c.args.name.now) v.regs) c.self.view_is
