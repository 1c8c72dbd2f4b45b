use Rattle.cache_regs.proofs.Imports.{◌∙◌, refl, arith}
use Rattle.cache_regs.proofs.EndLaws.{fits_step, ended_never, ended_then, ended_same, filter_within, name_first, name_more, name_of_all, name_all}
use Rattle.cache_regs.proofs.ends.end_name.Goals as goal

pub loop-conn-init : goal.loop-conn-init
loop-conn-init c = record {
  ended = ended_never _ _ _ _ (name_first _ _);
  mail = refl;
  place = omega arith;
}

pub end_unspared-requires : goal.end_unspared-requires
end_unspared-requires c = fits_step
    _ _ _ _ _ _ _ _ _ _ (name_more _ _ _) (grind (arith, name_of_all)) c.requires.room c.loop-conn.invariant.ended

pub loop-conn-preserved : goal.loop-conn-preserved
loop-conn-preserved c = record {
  ended = ended_then _ _ _
      _ _ _ _ _ _ _ _ _ (name_more _ _ _) c.loop-conn.invariant.ended c.end_unspared.ensures.ended;
  mail = c.end_unspared.ensures.mail ∙ c.loop-conn.invariant.mail;
  place = omega (arith, c.loop-conn.invariant.place, c.end_unspared.ensures.place);
}

pub returns-clause-ended : goal.returns-clause-ended
returns-clause-ended c = grind (arith, ended_same, filter_within, name_all)
