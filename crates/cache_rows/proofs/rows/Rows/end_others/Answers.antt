use Rattle.cache_rows.proofs.Imports.{arith}
use Rattle.cache_rows.proofs.ChangeLaws.{but-more, but-all}
use Rattle.cache_rows.proofs.rows.Rows.end_others.Goals as goal

pub loop-name-preserved : goal.loop-name-preserved
loop-name-preserved c = grind (arith, but-more)

pub returns-clause-rows : goal.returns-clause-rows
returns-clause-rows c = but-all c.args.spared.now c.args.names.now c.loop-name.self.rows _
    c.loop-name.name-index (omega arith) c.loop-name.invariant.0
