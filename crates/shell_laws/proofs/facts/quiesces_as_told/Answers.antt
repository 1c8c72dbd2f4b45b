use Rattle.shell_laws.proofs.QuiescedLaws.{quiesced-legal}
use Rattle.shell_laws.proofs.facts.quiesces_as_told.Goals as goal

pub returns : goal.returns
returns g c = record {
  quiesced = λ by. quiesced-legal g.E.Engine.meaning c.args.form.now c.args.history.now by c.requires.legal;
}
