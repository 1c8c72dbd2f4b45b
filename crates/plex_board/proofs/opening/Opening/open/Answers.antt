use Rattle.plex_board.proofs.Imports.{refl, rules, sym, subst, homes_shown, IsUnused}
use Rattle.plex_board.proofs.{OpenLaws.opened-ready, UnusedLaws.opening-unused}
use Rattle.plex_board.proofs.opening.Opening.open.Goals as goal

pub of-requires-after_bounds : goal.of-requires-after_bounds
of-requires-after_bounds g c κs within = opened-ready _ _ c.args.self.rest _ _ c.in-Ok.ensures.made
    c.requires.opening.begun c.requires.callers c.requires.few refl (search rules)

pub end_unused-requires-clause-unused : goal.end_unused-requires-clause-unused
end_unused-requires-clause-unused g c κs within =
    subst (λ rest. IsUnused c.args.self.stations.items (homes_shown rest.homes.items) c.args.self.desks.items)
    (sym c.in-Err.ensures.refused) (opening-unused c.args.callers c.args.limit c.args.self c.requires.opening)
