-- Steady links make no marks.
use Rattle.cache_core.specs.CacheModel.Meaning.{cache_meaning}
use Rattle.one_thread.proofs.SteadyLaws.{steady_steps}
use Rattle.one_thread.proofs.pool.ask_pool.Goals as goal

pub returns-clause-step : goal.returns-clause-step
returns-clause-step c = steady_steps cache_meaning c.args.pool.now
    c.answer.new.self c.args.by c.args.ask.now c.answer.new.changed.marks c.answer.result c.answer.ensures.turn
