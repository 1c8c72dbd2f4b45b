use Rattle.list_store.proofs.Imports.{◌∙◌, ℕ, ap, sym, refl, option_map, spot-map, rec_id, record_id, record_in}
use Rattle.list_store.proofs.{SpotLaws.header_is, StoreLaws.shown, StoreLaws.shown_apart}
use Rattle.list_store.proofs.store.Store.header_of.Goals as goal

pub returns-clause-header : goal.returns-clause-header
returns-clause-header c =
    let chains = c.self.inside.pool.chains in
    let lists = c.self.inside.table.lists in
    rw (← c.self.view_is) (c.header_of.ensures.header
    ∙ ap (option_map {T = ℕ × ℕ} {U = ℕ} (λ spot. spot.0)) (sym (spot-map (record_in chains)
    rec_id record_id (λ x. refl) c.args.id.0 lists)) ∙ header_is c.args.id (shown chains lists))

pub returns-clause-apart : goal.returns-clause-apart
returns-clause-apart c = rw (← c.self.view_is)
    (shown_apart c.self.inside.pool.chains c.self.inside.table.lists c.header_of.ensures.apart)
