-- The board that was started, served by all callers and closed.
use Rattle.plex_agent.proofs.Imports.{rules, ShowsHistories, AreRunLinks, IsServed}
use Rattle.plex_agent.proofs.CrewLaws.{served_shows}
use Rattle.plex_agent.proofs.{LinkRuns.links_size, RunLaws.lines_playable, RunLaws.finished_is, RunLaws.links_asked}
use Rattle.plex_agent.proofs.at_once.threads.Goals as goal

pub work-shown-requires-clause-lines : goal.work-shown-requires-clause-lines
work-shown-requires-clause-lines g c κs within = lines_playable c.args.limit _ _ (search rules) c.requires.script

pub returns-clause-shows : goal.returns-clause-shows
returns-clause-shows g c = finished_is _ _ _ (IsServed c.in-Ok.begun.0
    c.args.script.now.lines c.work-shown.result.1.items) (ShowsHistories c.args.limit c.args.script.now)
    c.finish.ensures.histories c.finish.ensures.transcripts c.finish.ensures.had_memory c.work-shown.ensures.served
    (λ transcripts served had. served_shows _ _ _ _ _ _ (search rules) served c.close-histories.ensures.histories had)

pub returns-clause-asked : goal.returns-clause-asked
returns-clause-asked g c =
    let laws = g.met.L.Link g.world.𝓛 g.world.𝓜 g.world.𝓡 ((λ s x. x), (λ x. x), (λ x. x), λ x. x) in
    finished_is _ _ _ (IsServed c.in-Ok.begun.0 c.args.script.now.lines c.work-shown.result.1.items)
    (λ histories transcripts. AreRunLinks g.L.Link.calls g.L.Link.downs
    g.L.Link.faults c.args.script.now.structures histories c.args.links.items c.close-histories.result.1.items)
    c.finish.ensures.histories c.finish.ensures.transcripts c.finish.ensures.had_memory c.work-shown.ensures.served
    (λ transcripts left had. links_asked c.args.limit c.args.script.now c.in-Ok.begun.0 _ (search rules) _ _ _
    laws.tells_enough _ _ c.in-Ok.ensures.links c.close-histories.ensures.links _ c.close-histories.ensures.histories)

pub returns-clause-count : goal.returns-clause-count
returns-clause-count g c =
    let laws = g.met.L.Link g.world.𝓛 g.world.𝓜 g.world.𝓡 ((λ s x. x), (λ x. x), (λ x. x), λ x. x) in
    links_size _ _ _ laws.tells_enough c.in-Ok.begun.0 _ _ _ _ c.in-Ok.ensures.links c.in-Ok.ensures.forms
    c.close-histories.ensures.links
