use Rattle.cache_regs.proofs.Imports.{arith, is_some, sym, ap, ◌∙◌}
use Rattle.cache_regs.proofs.{MapLaws.removed_regs, MapLaws.stands_law, MapLaws.removed_len, AgreeLaws.removed_agreed}
use Rattle.cache_regs.proofs.maps.take_out.Goals as goal

pub returns-in-Some-clause-agreed : goal.returns-in-Some-clause-agreed
returns-in-Some-clause-agreed c = removed_agreed c.args.places.now.entries
    c.swap_remove.new.self.entries c.args.names.now.entries c.swap_remove-in-Some.new.self.entries
    c.args.conn c.args.index c.in-Some.name c.requires c.swap_remove.ensures.unique
    (sym c.in-Some.ensures.value) c.swap_remove.ensures.updates.0 c.swap_remove-in-Some.ensures.updates.0

pub returns-in-Some-clause-found : goal.returns-in-Some-clause-found
returns-in-Some-clause-found c = ap is_some c.in-Some.ensures.value ∙ stands_law _ c.requires.unique _ _

pub returns-in-None-clause-found : goal.returns-in-None-clause-found
returns-in-None-clause-found c = ap is_some c.in-None.ensures.value ∙ stands_law _ c.requires.unique _ _

pub returns-in-Some-clause-regs : goal.returns-in-Some-clause-regs
returns-in-Some-clause-regs c = removed_regs c.args.places.now.entries c.swap_remove.new.self.entries
    c.args.conn c.args.index c.requires.unique c.swap_remove.ensures.unique c.swap_remove.ensures.updates.0

pub returns-in-None-clause-regs : goal.returns-in-None-clause-regs
returns-in-None-clause-regs c = removed_regs c.args.places.now.entries c.swap_remove.new.self.entries
    c.args.conn c.args.index c.requires.unique c.swap_remove.ensures.unique c.swap_remove.ensures.updates.0

pub returns-in-Some-clause-len : goal.returns-in-Some-clause-len
returns-in-Some-clause-len c = removed_len _ _ 1 c.in-Some.ensures.len

pub returns-in-None-clause-len : goal.returns-in-None-clause-len
returns-in-None-clause-len c = grind (arith, removed_len)
