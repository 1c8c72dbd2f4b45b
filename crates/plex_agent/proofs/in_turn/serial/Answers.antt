-- The board that was started, played to its end and closed.
use Rattle.plex_agent.proofs.Imports.{rules, ◌≡◌, ShowsHistories, AreRunLinks, serial_run, IsPlayed}
use Rattle.plex_agent.proofs.LinkRuns.{links_size}
use Rattle.plex_agent.proofs.RunLaws.{lines_playable, finished_is, links_asked, played_exact, played_shows}
use Rattle.plex_agent.proofs.in_turn.serial.Goals as goal

pub play-shown-requires-clause-lines : goal.play-shown-requires-clause-lines
play-shown-requires-clause-lines g c κs within = lines_playable c.args.limit _ _ (search rules) c.requires.script

pub returns-clause-exact : goal.returns-clause-exact
returns-clause-exact g c = λ told telling.
    let laws = g.met.L.Link g.world.𝓛 g.world.𝓜 g.world.𝓡 ((λ s x. x), (λ x. x), (λ x. x), λ x. x) in
    let run = serial_run c.args.limit told c.args.script.now in
    finished_is _ _ _ (IsPlayed c.in-Ok.begun.0 c.args.script.now c.play-shown.result.1.items)
    (λ histories transcripts. (histories ≡ run.histories) × (transcripts ≡ run.transcripts))
    c.finish.ensures.histories c.finish.ensures.transcripts
    c.finish.ensures.had_memory c.play-shown.ensures.played (λ transcripts played had. played_exact
    c.args.limit _ _ _ (search rules) _ _ _ laws.tells_enough _ _ c.in-Ok.ensures.links
    c.close-histories.ensures.links _ _ c.requires.script played c.close-histories.ensures.histories had told telling)

pub returns-clause-shows : goal.returns-clause-shows
returns-clause-shows g c = finished_is _ _ _ (IsPlayed c.in-Ok.begun.0 c.args.script.now c.play-shown.result.1.items)
    (ShowsHistories c.args.limit c.args.script.now) c.finish.ensures.histories c.finish.ensures.transcripts
    c.finish.ensures.had_memory c.play-shown.ensures.played (λ transcripts played had. played_shows
    _ _ _ _ (search rules) _ _ c.requires.script played c.close-histories.ensures.histories had)

pub returns-clause-asked : goal.returns-clause-asked
returns-clause-asked g c =
    let laws = g.met.L.Link g.world.𝓛 g.world.𝓜 g.world.𝓡 ((λ s x. x), (λ x. x), (λ x. x), λ x. x) in
    finished_is _ _ _ (IsPlayed c.in-Ok.begun.0
    c.args.script.now c.play-shown.result.1.items) (λ histories transcripts. AreRunLinks g.L.Link.calls g.L.Link.downs
    g.L.Link.faults c.args.script.now.structures histories c.args.links.items c.close-histories.result.1.items)
    c.finish.ensures.histories c.finish.ensures.transcripts c.finish.ensures.had_memory c.play-shown.ensures.played
    (λ transcripts left had. links_asked c.args.limit c.args.script.now c.in-Ok.begun.0 _ (search rules) _ _ _
    laws.tells_enough _ _ c.in-Ok.ensures.links c.close-histories.ensures.links _ c.close-histories.ensures.histories)

pub returns-clause-count : goal.returns-clause-count
returns-clause-count g c =
    let laws = g.met.L.Link g.world.𝓛 g.world.𝓜 g.world.𝓡 ((λ s x. x), (λ x. x), (λ x. x), λ x. x) in
    links_size _ _ _ laws.tells_enough c.in-Ok.begun.0 _ _ _ _ c.in-Ok.ensures.links c.in-Ok.ensures.forms
    c.close-histories.ensures.links
