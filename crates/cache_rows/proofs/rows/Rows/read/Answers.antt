use Rattle.cache_rows.proofs.ChangeLaws.{read_there, read_new}
use Rattle.cache_rows.proofs.rows.Rows.read.Goals as goal

pub returns-then-not-touch-clause-rows : goal.returns-then-not-touch-clause-rows
returns-then-not-touch-clause-rows c = read_new c.args.name.now c.args.stg c.args.gone.now _ _ _ _ _
    c.end_others.ensures.rows c.if-not-touch.ensures.found c.touch.ensures.rows c.new.ensures c.set.ensures.rows

pub returns-else-not-touch-clause-rows : goal.returns-else-not-touch-clause-rows
returns-else-not-touch-clause-rows c = read_there c.args.name.now c.args.stg c.args.gone.now _ _ _
    c.end_others.ensures.rows c.if-not-touch.ensures.found c.touch.ensures.rows
