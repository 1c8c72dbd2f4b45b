use Rattle.run_laws.proofs.VersionReplay.{versions_replay}
use Rattle.run_laws.proofs.lists.versions.Goals as goal

pub returns : goal.returns
returns c = versions_replay c.args.form.now c.args.history.now c.requires.legal c.requires.few
