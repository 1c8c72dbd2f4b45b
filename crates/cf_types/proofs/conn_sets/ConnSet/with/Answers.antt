use Rattle.cf_types.proofs.ConnSetLaws.{members-set, bits_set-lt}
use Rattle.cf_types.proofs.conn_sets.ConnSet.with.Goals as goal

pub invariant_of-result : goal.invariant_of-result
invariant_of-result c = bits_set-lt c.self.inside.0 c.args.conn c.self.invariant

pub returns : goal.returns
returns c = rw (← c.self.view_is) (members-set c.self.inside.0 c.args.conn c.requires)
