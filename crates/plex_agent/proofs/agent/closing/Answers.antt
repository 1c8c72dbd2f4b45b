use Rattle.plex_agent.proofs.Imports.{rules, ◌∙◌}
use Rattle.plex_agent.proofs.CallerLaws.{departs_next}
use Rattle.plex_agent.proofs.agent.closing.Goals as goal

pub loop-number-preserved : goal.loop-number-preserved
loop-number-preserved g c = record {
  of_board = c.depart.ensures.of_board;
  owner = c.depart.ensures.owner ∙ c.loop-number.invariant.owner;
  rest = λ after more. c.loop-number.invariant.rest after
      (departs_next c.args.board.now _ _ after c.loop-number.number (search rules) c.depart.ensures.departed more);
}
