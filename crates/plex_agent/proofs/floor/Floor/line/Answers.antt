use Rattle.plex_agent.proofs.Imports.{arith, refl, sym, ◌∙◌}
use Rattle.plex_agent.proofs.PlayLaws.{on_ok, plays_line, plays_nothing}
use Rattle.plex_agent.proofs.floor.Floor.line.Goals as goal

pub returns-then-not-is_working-clause-played : goal.returns-then-not-is_working-clause-played
returns-then-not-is_working-clause-played g c = plays_nothing c.args.board.now c.args.line.now
    c.args.self.now (sym c.is_working.ensures ∙ c.if-not-is_working.true) c.requires.line.right

pub returns-in-Post-clause-played : goal.returns-in-Post-clause-played
returns-in-Post-clause-played g c = grind (arith, on_ok, plays_line)

pub returns-in-Take-clause-played : goal.returns-in-Take-clause-played
returns-in-Take-clause-played g c = grind (arith, on_ok, plays_line)

pub returns-in-Call-clause-played : goal.returns-in-Call-clause-played
returns-in-Call-clause-played g c = plays_line c.args.board.now c.args.line.now c.args.line.now.act
    c.args.self.now c.turn.new.self (sym c.is_working.ensures ∙ c.if-not-is_working.false) refl c.turn.ensures.played
