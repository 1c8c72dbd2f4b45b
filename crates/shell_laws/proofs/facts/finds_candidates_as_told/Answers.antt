use Rattle.shell_laws.proofs.ReachLaws.{candidates-legal}
use Rattle.shell_laws.proofs.facts.finds_candidates_as_told.Goals as goal

pub returns : goal.returns
returns g c = record {
  candidates = λ by. candidates-legal g.E.Engine.meaning c.args.form.now c.requires.formed c.args.history.now c.requires.legal by;
}
