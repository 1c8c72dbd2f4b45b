use Rattle.shell_laws.proofs.KeptLaws.{told-legal}
use Rattle.shell_laws.proofs.facts.fails_as_told.Goals as goal

pub returns : goal.returns
returns g c = record {
  failed = (told-legal g.E.Engine.meaning c.args.form.now c.args.history.now c.requires.legal).failed;
}
