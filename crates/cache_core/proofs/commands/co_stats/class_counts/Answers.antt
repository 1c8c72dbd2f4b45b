use Rattle.cache_core.proofs.Imports.{arith}
use Rattle.cache_core.proofs.EndLaws.{class_turn}
use Rattle.cache_core.proofs.commands.co_stats.class_counts.Goals as goal

pub loop-class-preserved : goal.loop-class-preserved
loop-class-preserved c = grind (arith, class_turn)
