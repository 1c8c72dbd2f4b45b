use Rattle.cache_dir.proofs.Imports.{lookup-map_values, length-map, ◌≡◌, ℕ, List, nat_eq, length, rules, ap, ◌∙◌, lookup, pointwise, DirRow, let_go}
use Rattle.cache_dir.proofs.EntryLaws.{changed_values, changed-RetainsPairs}
use Rattle.cache_dir.proofs.dir.release_each.Goals as goal

after : (c : goal.After-retain)
    → c.retain.new.self.entries ≡ changed_values (let_go c.args.conn) c.args.rows.now.entries
after c = changed-RetainsPairs _ (let_go c.args.conn) _ (λ k v b w h t. search rules) _ _ c.retain.ensures.filtered

pub returns-clause-released : goal.returns-clause-released
returns-clause-released c q = ap (λ (es : List (List ℕ × DirRow)). lookup (pointwise nat_eq q.0) es) (after c)
    ∙ lookup-map_values (let_go c.args.conn) (pointwise nat_eq q.0) c.args.rows.now.entries

pub returns-clause-len : goal.returns-clause-len
returns-clause-len c =
    ap (λ (es : List (List ℕ × DirRow)). length es) (after c) ∙ length-map c.args.rows.now.entries _
