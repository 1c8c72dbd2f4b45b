use Rattle.shell_laws.proofs.MemberLaws.{manned-replay}
use Rattle.shell_laws.proofs.laws.members_are_active.Goals as goal

pub returns : goal.returns
returns g c = record {
  members = (manned-replay g.E.Engine.meaning c.args.form.now c.args.history.now).members;
}
