use Rattle.shell_laws.proofs.HistoryLaws.{rebuild-legal}
use Rattle.shell_laws.proofs.laws.keeps_what_is_told.Goals as goal

pub returns : goal.returns
returns g c = record { told = rebuild-legal g.E.Engine.meaning c.args.form.now c.args.history.now c.requires.legal }
