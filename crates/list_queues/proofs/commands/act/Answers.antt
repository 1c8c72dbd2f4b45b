use Rattle.std.proofs.Common.{◌≡◌, ap, sym, subst, ◌∙◌}
use Rattle.engine_api.specs.Meaning.{Answer}
use Rattle.list_queues.specs.EngineView.{held_with}
use Rattle.list_queues.proofs.StepLaws.{list_step}
use Rattle.list_queues.proofs.commands.act.Goals as goal

pub returns-in-Ok-clause-step : goal.returns-in-Ok-clause-step
returns-in-Ok-clause-step c = rw (c.turn.ensures, c.requires.planned) (list_step c.args.inner.now.held
    c.apply.new.self.held c.args.queues.now.queued c.args.by c.args.cmd.now c.in-Ok.reply c.content_is.ensures.content
    c.in-Ok.ensures.step)
