use Rattle.cache_rows.proofs.Imports.{◌∙◌, ap, map, row_at, without_hold, IsIndexed, listed_of}
use Rattle.cache_rows.proofs.IndexedLaws.{released, listed, listed_is}
use Rattle.cache_rows.proofs.directory.Directory.release.Goals as goal

left : (c : goal.After-release) → IsIndexed (map (without_hold c.args.conn) (listed_of c.self.inside).rows)
    (row_at c.release.new.self.entries) c.self.inside.classes.names c.self.inside.order.order
left c = released _ _ _ _ _ _ c.self.invariant c.release.ensures.released

pub invariant_of-self : goal.invariant_of-self
invariant_of-self c = listed _ _ _ _ (left c)

pub returns-clause-rows : goal.returns-clause-rows
returns-clause-rows c = listed_is _ _ _ _ (left c) ∙ ap (λ l. map (without_hold c.args.conn) l.rows) c.self.view_is
