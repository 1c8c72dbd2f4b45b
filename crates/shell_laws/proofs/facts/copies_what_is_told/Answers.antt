use Rattle.shell_laws.proofs.KeptLaws.{told-legal}
use Rattle.shell_laws.proofs.facts.copies_what_is_told.Goals as goal

pub returns : goal.returns
returns g c = record {
  copied = (told-legal g.E.Engine.meaning c.args.form.now c.args.history.now c.requires.legal).copied;
}
