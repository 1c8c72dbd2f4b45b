use Rattle.cache_core.proofs.Imports.{arith, ◌∙◌}
use Rattle.cache_core.proofs.EndLaws.{ending_more, ending_all, ending_room}
use Rattle.cache_core.proofs.commands.end_regs.Goals as goal

pub drop_name-requires : goal.drop_name-requires
drop_name-requires c = ending_room _ c.loop-name.regs.regs c.loop-name.out.bits.room c.loop-name.invariant.ending.fits

pub loop-name-preserved : goal.loop-name-preserved
loop-name-preserved c = record {
  ending = ending_more _ _ _ _ _ _ _ _ _ _ _ _ (omega arith) c.loop-name.invariant.ending
      c.drop_name.ensures.regs c.drop_name.ensures.fewer c.drop_name.ensures.room c.drop_name.ensures.bits;
  room = omega (arith, c.drop_name.ensures.room, c.drop_name.ensures.fewer, c.loop-name.invariant.room);
  mail = c.drop_name.ensures.mail ∙ c.loop-name.invariant.mail;
  place = omega (arith, c.drop_name.ensures.place, c.loop-name.invariant.place);
  len = c.drop_name.ensures.len ∙ c.loop-name.invariant.len;
}

pub returns-clause-regs : goal.returns-clause-regs
returns-clause-regs c = ending_all _ _ _ _ _ _ _ (omega arith) c.loop-name.invariant.ending
