use Rattle.cache_regs.proofs.Imports.{sym}
use Rattle.cache_regs.proofs.EndLaws.{ended_never, of_spare}
use Rattle.cache_regs.proofs.ends.end_unspared.Goals as goal

pub returns-else-not-is_spared-clause-ended : goal.returns-else-not-is_spared-clause-ended
returns-else-not-is_spared-clause-ended c = ended_never _ _ _ _ (of_spare _ _ _ _ (sym c.if-not-is_spared.ensures))
