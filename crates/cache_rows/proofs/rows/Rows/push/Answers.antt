use Rattle.cache_rows.proofs.Imports.{◌∙◌, ap, List, CacheItem, rows_with}
use Rattle.cache_rows.proofs.IndexLaws.{with-last}
use Rattle.cache_rows.proofs.rows.Rows.push.Goals as goal

pub returns-in-Ok-clause-ok : goal.returns-in-Ok-clause-ok
returns-in-Ok-clause-ok c = c.put.ensures.rows ∙ ap (λ (l : List CacheItem). rows_with c.args.row l) c.in-Ok.ensures.rows
    ∙ with-last c.args.row c.args.self.now.rows c.requires.last
