use Rattle.plex_board.proofs.UnusedLaws.{opening-unused}
use Rattle.plex_board.proofs.opening.Opening.give_up.Goals as goal

pub end_unused-requires-clause-unused : goal.end_unused-requires-clause-unused
end_unused-requires-clause-unused g c κs within =
    opening-unused c.args.callers c.args.limit c.args.self c.requires.opening
