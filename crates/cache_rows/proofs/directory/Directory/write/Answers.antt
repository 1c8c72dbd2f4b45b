use Rattle.cache_rows.proofs.Imports.{◌∙◌, ◌<◌, Some, ap, length, subst, sym, arith, row_at, rows_replaced, item_with, Listed, IsIndexed, listed_of}
use Rattle.cache_rows.proofs.IndexedLaws.{replaced, fewer_unchanged, listed, listed_is}
use Rattle.cache_rows.proofs.directory.Directory.write.Goals as goal

pub index_row-requires-clause-place : goal.index_row-requires-clause-place
index_row-requires-clause-place c =
    let few = subst (λ (l : Listed). length l.rows < l.entries) (sym c.self.view_is) c.requires.few in
    let less = fewer_unchanged _ _ c.self.inside.classes.names c.self.inside.order.order c.self.invariant in
    omega (arith, few, less, c.unindex.ensures.fewer, c.unindex.ensures.entries)

pub write-requires-clause-fits : goal.write-requires-clause-fits
write-requires-clause-fits c = grind arith

left : (c : goal.After-write)
    → IsIndexed (rows_replaced (item_with c.args.label.now (Some c.args.body.now)) (listed_of c.self.inside).rows)
    (row_at c.write.new.self.entries) c.index_row.new.classes.names c.index_row.new.order.order
left c = replaced _ _ _ _ _ _ _ _ _ _ c.self.invariant c.write.ensures.writes
    c.unindex.ensures.classes c.unindex.ensures.order c.index_row.ensures.classes c.index_row.ensures.order

pub invariant_of-self : goal.invariant_of-self
invariant_of-self c = listed _ _ _ _ (left c)

pub returns-clause-rows : goal.returns-clause-rows
returns-clause-rows c = listed_is _ _ _ _ (left c)
    ∙ ap (λ (l : Listed). rows_replaced (item_with c.args.label.now (Some c.args.body.now)) l.rows) c.self.view_is

pub returns-clause-free : goal.returns-clause-free
returns-clause-free c = grind arith
