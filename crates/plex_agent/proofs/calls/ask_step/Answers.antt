use Rattle.plex_agent.proofs.Imports.{rules}
use Rattle.plex_agent.proofs.CellLaws.{ask_fits, may_ask_there}
use Rattle.plex_agent.proofs.calls.ask_step.Goals as goal

pub call-requires-clause-ask : goal.call-requires-clause-ask
call-requires-clause-ask g c κs within =
    ask_fits c.args.board.now _ _ _ _ c.args.now _ c.kind-kind.ensures.str_type c.requires.may (search rules)

pub call-requires-clause-may : goal.call-requires-clause-may
call-requires-clause-may g c κs within = may_ask_there c.args.board.now
    _ _ _ _ c.args.now _ c.kind-kind.ensures.str_type c.requires.may (search rules) c.requires.place
