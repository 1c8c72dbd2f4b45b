use Rattle.cache_rows.proofs.Imports.{◌<◌, ◌∙◌, ap, is_some, length, subst, sym, arith, row_at, row_of, retaken, Listed, IsIndexed, listed_of}
use Rattle.cache_rows.proofs.IndexedLaws.{touched_in, fewer_unchanged, listed, listed_is}
use Rattle.cache_rows.proofs.directory.Directory.touch.Goals as goal

pub reset-requires-clause-place : goal.reset-requires-clause-place
reset-requires-clause-place c =
    let few = subst (λ (l : Listed). length l.rows < l.entries) (sym c.self.view_is) c.requires.few in
    let less = fewer_unchanged _ _ c.self.inside.classes.names c.self.inside.order.order c.self.invariant in
    omega (arith, few, less)

left : (c : goal.After-reset) → IsIndexed (retaken (row_of c.args.name.now (listed_of c.self.inside).rows)
    (listed_of c.self.inside).rows) (row_at c.self.inside.store.entries) c.reset.new.classes.names
    c.reset.new.order.order
left c = touched_in
    _ _ _ _ _ _ c.args.name.now c.self.invariant c.reset.ensures.classes c.reset.ensures.order

pub invariant_of-self : goal.invariant_of-self
invariant_of-self c = listed _ _ _ _ (left c)

pub returns-clause-found : goal.returns-clause-found
returns-clause-found c = c.reset.ensures.found ∙ ap is_some (c.self.invariant.found c.args.name.now)
    ∙ ap (λ (l : Listed). is_some (row_of c.args.name.now l.rows)) c.self.view_is

pub returns-clause-rows : goal.returns-clause-rows
returns-clause-rows c = listed_is _ _ _ _ (left c)
    ∙ ap (λ (l : Listed). retaken (row_of c.args.name.now l.rows) l.rows) c.self.view_is
