use Rattle.cache_rows.proofs.Imports.{arith, ◌∙◌, ap, row_at, rows_without, IsIndexed, listed_of}
use Rattle.cache_rows.proofs.IndexedLaws.{taken, listed, listed_is}
use Rattle.cache_rows.proofs.directory.Directory.end.Goals as goal

left : (c : goal.After-end) → IsIndexed (rows_without c.args.name.now (listed_of c.self.inside).rows)
    (row_at c.end.new.self.entries) c.unindex.new.classes.names c.unindex.new.order.order
left c = taken _ _ _ _ _ _ _ _ c.self.invariant c.end.ensures.writes c.unindex.ensures.classes c.unindex.ensures.order

pub invariant_of-self : goal.invariant_of-self
invariant_of-self c = listed _ _ _ _ (left c)

pub returns-clause-rest : goal.returns-clause-rest
returns-clause-rest c = listed_is _ _ _ _ (left c) ∙ ap (λ l. rows_without c.args.name.now l.rows) c.self.view_is

pub returns-clause-free : goal.returns-clause-free
returns-clause-free c = grind arith
