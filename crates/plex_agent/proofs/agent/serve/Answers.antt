use Rattle.plex_agent.proofs.Imports.{arith, rules, ◌∙◌}
use Rattle.plex_agent.proofs.CallerLaws.{line_fits, does_own, does_others}
use Rattle.plex_agent.proofs.agent.serve.Goals as goal
use Rattle.plex_agent.proofs.agent.serve.Goals.{then-eq, else-eq}

pub gated_turn-requires-clause-line : goal.gated_turn-requires-clause-line
gated_turn-requires-clause-line g c κs within = line_fits _ _ _ _ _ (search rules) c.line-item.is c.requires.lines

pub loop-line-preserved : goal.loop-line-preserved
loop-line-preserved g c =
    let fits = line_fits _ _ _ _ _ (search rules) c.line-item.is c.requires.lines in
    elim c.if-eq.branch [
      | then-eq w ↦ rw (w.desk-is, w.shown-is) (record {
        of_board = w.gated_turn.ensures.of_board;
        owner = w.gated_turn.ensures.owner ∙ c.loop-line.invariant.owner;
        rest = λ after more. c.loop-line.invariant.rest after
            (does_own _ _ _ _ c.args.desk.now.owner c.args.lines.now c.loop-line.line-index c.line-item.result
            c.line-item.result (search rules) c.line-item.is (search rules) fits w.gated_turn.ensures.turned more);
      })
      | else-eq w ↦ rw (w.desk-is, w.shown-is) (grind (arith, does_others))
    ]
