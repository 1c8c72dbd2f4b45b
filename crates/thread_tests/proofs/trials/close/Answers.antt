use Rattle.std.proofs.Common.{rules}
use Rattle.thread_tests.proofs.SeatLaws.{three_desks, three_owners}
use Rattle.thread_tests.proofs.trials.close.Goals as goal

pub close-histories-requires-clause-desks : goal.close-histories-requires-clause-desks
close-histories-requires-clause-desks g c κs within =
    three_desks c.args.trial.board c.in_ok-desks.desks.items c.args.trial.operator c.args.trial.first
    c.args.trial.second c.in_ok-desks.ensures c.requires.operator c.requires.first.of_board c.requires.second.of_board

pub close-histories-requires-clause-owners : goal.close-histories-requires-clause-owners
close-histories-requires-clause-owners g c κs within =
    three_owners c.args.trial.board c.in_ok-desks.desks.items c.args.trial.operator c.args.trial.first
    c.args.trial.second c.in_ok-desks.ensures (search rules) (search rules) (search rules) c.requires.callers
