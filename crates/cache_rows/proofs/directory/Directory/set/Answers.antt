use Rattle.cache_rows.proofs.Imports.{◌∙◌, ◌<◌, ap, length, subst, sym, arith, row_at, rows_replaced, Listed, IsIndexed, listed_of, relabeled}
use Rattle.cache_rows.proofs.IndexedLaws.{relabeled_in, fewer_unchanged, listed, listed_is}
use Rattle.cache_rows.proofs.directory.Directory.set.Goals as goal

pub index_row-requires-clause-place : goal.index_row-requires-clause-place
index_row-requires-clause-place c =
    let few = subst (λ (l : Listed). length l.rows < l.entries) (sym c.self.view_is) c.requires.few in
    let less = fewer_unchanged _ _ c.self.inside.classes.names c.self.inside.order.order c.self.invariant in
    omega (arith, few, less, c.unindex.ensures.fewer, c.unindex.ensures.entries)

left : (c : goal.After-set) → IsIndexed
    (rows_replaced (relabeled c.args.label.now (listed_of c.self.inside).rows) (listed_of c.self.inside).rows)
    (row_at c.set.new.self.entries) c.index_row.new.classes.names c.index_row.new.order.order
left c = relabeled_in _ _ _ _ _ _ _ _ _ _ c.self.invariant c.set.ensures.writes
    c.unindex.ensures.classes c.unindex.ensures.order c.index_row.ensures.classes c.index_row.ensures.order

pub invariant_of-self : goal.invariant_of-self
invariant_of-self c = listed _ _ _ _ (left c)

pub returns-clause-rows : goal.returns-clause-rows
returns-clause-rows c = listed_is _ _ _ _ (left c)
    ∙ ap (λ (l : Listed). rows_replaced (relabeled c.args.label.now l.rows) l.rows) c.self.view_is
