use Rattle.cf_lists.proofs.NodeLaws.{replace_is}
use Rattle.cf_lists.proofs.nodes.replace.Goals as goal

pub returns : goal.returns
returns g c = cc (replace_is c.args.list.now c.args.at c.args.value)
