use Rattle.plex_agent.proofs.Imports.{arith, rules, ◌∙◌}
use Rattle.plex_agent.proofs.CellLaws.{some_is, if_each}
use Rattle.plex_agent.proofs.AskLaws.{asks_more, asks_refused, pass_there, asked_fewer, asked_ready, asked_owner}
use Rattle.plex_agent.proofs.calls.ask_all.Goals as goal

pub loop-alloc-smaller : goal.loop-alloc-smaller
loop-alloc-smaller g c = asked_fewer c.args.board.now _ _ _ _ _ _ c.requires.place c.in-Ok.ensures.asked (search rules)

pub loop-alloc-preserved : goal.loop-alloc-preserved
loop-alloc-preserved g c = record {
  of_board = c.in-Ok.ensures.of_board;
  owner =
      asked_owner c.args.board.now _ _ _ _ _ _ c.requires.place c.in-Ok.ensures.asked ∙ c.loop-alloc.invariant.owner;
  ready = asked_ready c.args.board.now _ _ _ _ _ _ c.requires.place c.in-Ok.ensures.asked c.loop-alloc.invariant.ready;
  rest = λ cell is after more. c.loop-alloc.invariant.rest cell is after
      (asks_more _ _ _ _ _ _ _ _ _ (pass_there c.args.board.now _ _ c.loop-alloc.invariant.of_board c.requires.place)
      (some_is _ _ _ is c.in-Ok.ensures.asked) more);
}

pub returns-in-Err-clause-asks : goal.returns-in-Err-clause-asks
returns-in-Err-clause-asks g c = if_each _ _ (λ cell is. c.loop-alloc.invariant.rest cell is _
    (grind (arith, asks_refused, some_is)))
