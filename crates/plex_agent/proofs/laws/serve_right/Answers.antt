use Rattle.plex_agent.proofs.{Alone.alone_serves, ServeLaw.serve_right}
use Rattle.plex_agent.proofs.laws.serve_right.Goals as goal

pub returns-clause-shows : goal.returns-clause-shows
returns-clause-shows g c = λ limit script board histories workers k worker left there serves.
    serve_right limit script board histories workers left.forms left.cells left.closed k worker there serves

pub returns-clause-alone : goal.returns-clause-alone
returns-clause-alone g c = alone_serves
