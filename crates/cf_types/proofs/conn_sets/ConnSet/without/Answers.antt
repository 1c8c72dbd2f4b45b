use Rattle.cf_types.proofs.ConnSetLaws.{members-clear}
use Rattle.cf_types.proofs.conn_sets.ConnSet.without.Goals as goal

pub returns : goal.returns
returns c = rw (← c.self.view_is) (members-clear c.self.inside.0 c.args.conn c.requires)
