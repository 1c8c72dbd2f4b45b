use Rattle.cache_regs.proofs.Imports.{◌∙◌, arith, gains_falls}
use Rattle.cache_regs.proofs.EndLaws.{ended_falls, ended_fewer}
use Rattle.cache_regs.proofs.ends.end_all.Goals as goal

pub loop-conn-smaller : goal.loop-conn-smaller
loop-conn-smaller c = ended_fewer _ _ _ _ _ _ _ c.end_at.ensures.ended c.in-Some.ensures.some

pub loop-conn-preserved : goal.loop-conn-preserved
loop-conn-preserved c =
    let falls = ended_falls _ _ _ _ _ _ _ c.end_at.ensures.ended in
    record {
      falls = λ conn index h. c.loop-conn.invariant.falls conn index (falls conn index h);
      bits = grind (arith, gains_falls);
      room = omega (arith, c.loop-conn.invariant.room, c.end_at.ensures.ended.counted);
      mail = c.end_at.ensures.mail ∙ c.loop-conn.invariant.mail;
      place = omega (arith, c.loop-conn.invariant.place, c.end_at.ensures.place);
    }
