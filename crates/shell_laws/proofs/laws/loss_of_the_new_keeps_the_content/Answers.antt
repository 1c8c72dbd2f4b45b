use Rattle.shell_laws.proofs.LossLaws.{loss-keeps, vary-keeps}
use Rattle.shell_laws.proofs.laws.loss_of_the_new_keeps_the_content.Goals as goal

pub returns : goal.returns
returns g c = record {
  mark = loss-keeps g.E.Engine.meaning c.args.form.now;
  vary = vary-keeps g.E.Engine.meaning c.args.form.now;
}
