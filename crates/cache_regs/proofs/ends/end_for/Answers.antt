use Rattle.cache_regs.proofs.Imports.{arith, sym, is_at, is_for}
use Rattle.cache_regs.proofs.EndLaws.{fits_same, ended_same, ended_none, for_at, for_none}
use Rattle.cache_regs.proofs.ends.end_for.Goals as goal

pub end_at-requires : goal.end_at-requires
end_at-requires c = fits_same (is_for c.args.conn c.args.name.now) (is_at c.args.conn c.in-Some.index) _ _
    (sym (for_at c.args.conn c.args.name.now c.in-Some.index c.args.maps.now.regs c.in-Some.ensures.alone)) c.requires

pub returns-in-Some-clause-ended : goal.returns-in-Some-clause-ended
returns-in-Some-clause-ended c = ended_same _ _ _ _ _ _ _ _ (for_at
    c.args.conn c.args.name.now c.in-Some.index c.args.maps.now.regs c.in-Some.ensures.alone) c.end_at.ensures.ended

pub returns-in_default-clause-ended : goal.returns-in_default-clause-ended
returns-in_default-clause-ended c = ended_none (is_for c.args.conn c.args.name.now) _ _ _ (grind (arith, for_none))
