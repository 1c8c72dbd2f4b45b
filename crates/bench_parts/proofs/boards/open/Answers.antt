use Rattle.bench_parts.proofs.Imports.{length}
use Rattle.bench_parts.proofs.SeatLaws.{begun-board, begun-desks, policy_is}
use Rattle.bench_parts.proofs.boards.open.Goals as goal

pub start-requires-clause-policy : goal.start-requires-clause-policy
start-requires-clause-policy g c κs within = policy_is c.args.policy.now c.requires.policy

pub returns-clause-board : goal.returns-clause-board
returns-clause-board g c = begun-board (length c.args.policy.now.connectors)
    65536 c.args.policy.now c.start.result c.requires.policy c.start.ensures.forms c.start.ensures.cells

pub returns-clause-desks : goal.returns-clause-desks
returns-clause-desks g c =
    begun-desks (λ v. v.items) c.args.policy.now c.start.result c.requires.policy c.start.ensures.desks
