use Rattle.list_store.proofs.Imports.{◌∙◌, ap, sym, refl, option_map, spot-map, rec_id, as_spot, record_id, record_in}
use Rattle.list_store.proofs.{SpotLaws.spot_is, StoreLaws.shown, StoreLaws.shown_apart}
use Rattle.list_store.proofs.store.Store.whereabouts.Goals as goal

pub returns-clause-spot : goal.returns-clause-spot
returns-clause-spot c =
    let chains = c.self.inside.pool.chains in
    let lists = c.self.inside.table.lists in
    rw (← c.self.view_is) (c.whereabouts.ensures.spot ∙ ap (option_map as_spot) (sym (spot-map
    (record_in chains) rec_id record_id (λ x. refl) c.args.id.0 lists)) ∙ spot_is c.args.id (shown chains lists))

pub returns-clause-apart : goal.returns-clause-apart
returns-clause-apart c = rw (← c.self.view_is)
    (shown_apart c.self.inside.pool.chains c.self.inside.table.lists c.whereabouts.ensures.apart)
