use Rattle.cache_regs.proofs.Imports.{◌∙◌, refl, arith}
use Rattle.cache_regs.proofs.EndLaws.{fits_step, ended_never, ended_then, ended_same, filter_within, below_first, below_more, below_of, below_all}
use Rattle.cache_regs.proofs.ends.end_conn.Goals as goal

pub loop-index-init : goal.loop-index-init
loop-index-init c = record {
  ended = ended_never _ _ _ _ (below_first _);
  mail = refl;
  place = omega arith;
}

pub end_at-requires : goal.end_at-requires
end_at-requires c =
    fits_step _ _ _ _ _ _ _ _ _ _ (below_more _ _) (below_of _ _) c.requires.room c.loop-index.invariant.ended

pub loop-index-preserved : goal.loop-index-preserved
loop-index-preserved c = record {
  ended = ended_then _ _ _ _ _ _ _ _ _ _ _ _ (below_more _ _) c.loop-index.invariant.ended c.end_at.ensures.ended;
  mail = c.end_at.ensures.mail ∙ c.loop-index.invariant.mail;
  place = omega (arith, c.loop-index.invariant.place, c.end_at.ensures.place);
}

pub returns-clause-ended : goal.returns-clause-ended
returns-clause-ended c = grind (arith, ended_same, filter_within, below_all)
