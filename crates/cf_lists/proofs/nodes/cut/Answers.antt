use Rattle.cf_lists.proofs.NodeLaws.{cut_is}
use Rattle.cf_lists.proofs.nodes.cut.Goals as goal

pub returns-clause-list : goal.returns-clause-list
returns-clause-list g c = cc (cut_is c.args.list.now c.args.at)
