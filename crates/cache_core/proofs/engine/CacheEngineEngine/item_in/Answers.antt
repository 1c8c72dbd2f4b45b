use Rattle.cache_core.proofs.Imports.{◌≡◌, Some, map, slice_get, sym, subst, ap, List, ◌∙◌, IfOk-weaker, Name16, CacheItem, row_of, named-row, named-has, EngineView}
use Rattle.cache_core.proofs.NextLaws.{named_at}
use Rattle.cache_core.proofs.engine.CacheEngineEngine.item_in.Goals as goal

pub copy_of-requires : goal.copy_of-requires
copy_of-requires c =
    let order = c.args.order.now.names.items in
    named-has c.self.inside.rows.rows c.args.k c.name_at-name.result c.self.invariant.content.directory.one_for_name
    (named_at order c.self.inside.rows.rows c.args.k c.name_at-name.result (subst (λ (e : EngineView). order ≡ map
    (λ (row : CacheItem). row.name) e.held.state.rows) (sym c.self.view_is) c.requires.order)
    (ap (λ (l : List Name16). slice_get l c.args.k) (sym c.as_slice.ensures.value) ∙ c.name_at-name.ensures))

pub returns : goal.returns
returns c =
    let order = c.args.order.now.names.items in
    let rows = c.self.inside.rows.rows in
    let named = named_at order rows c.args.k c.name_at-name.result (subst (λ (e : EngineView). order ≡ map
    (λ (row : CacheItem). row.name) e.held.state.rows) (sym c.self.view_is) c.requires.order)
    (ap (λ (l : List Name16). slice_get l c.args.k) (sym c.as_slice.ensures.value) ∙ c.name_at-name.ensures) in
    rw (← c.self.view_is) (IfOk-weaker c.copy_of.result (λ item. row_of c.name_at-name.result rows ≡ Some item)
    (λ item. slice_get rows c.args.k ≡ Some item) (λ item h. sym (named-row rows c.args.k
    c.name_at-name.result c.self.invariant.content.directory.one_for_name named) ∙ h) c.copy_of.ensures)
