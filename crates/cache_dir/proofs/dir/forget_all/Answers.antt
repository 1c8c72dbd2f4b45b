use Rattle.cache_dir.proofs.Imports.{ℕ, List, nat_eq, not, ◌==◌, ap, rules, ◌∙◌, lookup, pointwise, nat_list_eq_equiv, lookup-filter-values, filter-RetainsPairs, ConnId, row_at}
use Rattle.cache_dir.proofs.LockLaws.{filtered}
use Rattle.cache_dir.proofs.dir.forget_all.Goals as goal

pub returns-clause-rest : goal.returns-clause-rest
returns-clause-rest c q = ap (λ (es : List (List ℕ × ConnId)). lookup (pointwise nat_eq q.0) es)
    (filter-RetainsPairs _ _ _ (λ k v b w g call. search rules) _ _ c.retain.ensures.filtered)
    ∙ lookup-filter-values nat_list_eq_equiv (λ (other : ConnId). not (other.0 == c.args.conn.0))
    q.0 c.args.locks.now.entries c.requires ∙ filtered c.args.conn (row_at c.args.locks.now.entries q)
