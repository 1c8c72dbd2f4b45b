use Rattle.cache_regs.proofs.Imports.{ap, ◌∙◌, subst, IfSome, index_for, RegList, IsAloneFor}
use Rattle.cache_regs.proofs.AgreeLaws.{index_law, alone_found}
use Rattle.cache_regs.proofs.maps.Maps.index_of.Goals as goal

pub returns-clause-index : goal.returns-clause-index
returns-clause-index c = c.copied.ensures ∙ c.get.ensures.value
    ∙ index_law c.self.inside.by_place.entries c.self.inside.by_name.entries c.self.invariant
    c.args.conn c.args.name.now ∙ ap (λ (v : RegList). index_for v.regs c.args.conn c.args.name.now) c.self.view_is

pub returns-clause-alone : goal.returns-clause-alone
returns-clause-alone c = subst (λ v. IfSome c.copied.result (λ index. IsAloneFor c.args.conn c.args.name.now
    index v.regs)) c.self.view_is (alone_found c.self.inside.by_place.entries c.self.inside.by_name.entries
    c.self.invariant c.args.conn c.args.name.now c.copied.result (c.copied.ensures ∙ c.get.ensures.value))
