use Rattle.plex_board.proofs.UnusedLaws.{unused-fits, unused-homes, unused-links}
use Rattle.plex_board.proofs.ending.end_unused.Goals as goal

pub gather-requires : goal.gather-requires
gather-requires g c = unused-fits _ _ _ c.requires.unused

pub end-requires-clause-homes : goal.end-requires-clause-homes
end-requires-clause-homes g c κs within = unused-homes _ _ _ c.requires.unused _ c.gather.ensures

pub returns : goal.returns
returns g c = unused-links _ _ _ c.requires.unused g.L.Link.calls
    g.L.Link.downs g.L.Link.faults _ _ _ _ c.gather.ensures c.end.ensures.histories c.end.ensures.links
