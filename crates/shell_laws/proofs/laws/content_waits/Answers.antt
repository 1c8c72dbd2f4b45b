use Rattle.shell_laws.proofs.Imports.{replay}
use Rattle.shell_laws.proofs.MemberLaws.{manned-replay, content_waits}
use Rattle.shell_laws.proofs.laws.content_waits.Goals as goal

pub returns : goal.returns
returns g c = record {
  waits = λ rebuild by is held. content_waits (replay g.E.Engine.meaning c.args.form.now c.args.history.now).shell
      rebuild by (manned-replay g.E.Engine.meaning c.args.form.now c.args.history.now) is held;
}
