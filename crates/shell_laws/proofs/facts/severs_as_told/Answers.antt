use Rattle.shell_laws.proofs.ReachLaws.{reached-legal}
use Rattle.shell_laws.proofs.facts.severs_as_told.Goals as goal

pub returns : goal.returns
returns g c = record {
  severed = (reached-legal g.E.Engine.meaning c.args.form.now c.args.history.now c.requires.legal).severed;
}
