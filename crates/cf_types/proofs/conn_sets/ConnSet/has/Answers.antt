use Rattle.cf_types.proofs.ConnSetLaws.{has_bit}
use Rattle.cf_types.proofs.conn_sets.ConnSet.has.Goals as goal

pub returns : goal.returns
returns c = rw (← c.self.view_is) (has_bit c.self.inside.0 c.args.conn c.requires)
