use Rattle.cache_regs.proofs.Imports.{arith}
use Rattle.cache_regs.proofs.ListedLaws.{count_first, count_more, count_all}
use Rattle.cache_regs.proofs.regs.count_name.Goals as goal

pub loop-conn-init : goal.loop-conn-init
loop-conn-init c = (count_first c.args.name.now c.args.spare c.args.maps.now.regs, omega arith)

pub loop-conn-preserved : goal.loop-conn-preserved
loop-conn-preserved c = grind (arith, count_more)

pub returns : goal.returns
returns c = grind (arith, count_all)
