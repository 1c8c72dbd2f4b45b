use Rattle.list_watch.proofs.Imports.{◌≡◌, ◌++◌, ◌∷◌, [], List, not, filter, ap, ◌∙◌, rules, filter_same, Watched, is_at, rows_put}
use Rattle.list_watch.proofs.BitLaws.{gains_put}
use Rattle.list_watch.proofs.watch.put.Goals as goal

kept : (c : goal.After-push_reserved) → c.push_reserved.new.self.items ≡ rows_put c.args.new c.args.rows.now.items
kept c =
    let others : c.retain.new.self.items ≡ filter (λ row. not (is_at c.args.new.monitor.conn c.args.new.monitor.index
    row.monitor)) c.args.rows.now.items = filter_same _ _ _ (λ x b f h. search rules) _ _ c.retain.ensures.filtered in
    c.push_reserved.ensures.items ∙ ap (λ (l : List Watched). l ++ c.args.new ∷ []) others

pub returns-clause-rows : goal.returns-clause-rows
returns-clause-rows c = kept c

pub returns-clause-bits : goal.returns-clause-bits
returns-clause-bits c = rw (kept c, c.say.ensures.bits, c.is_lit.ensures, c.deref.ensures.value)
    (gains_put c.args.new c.args.rows.now.items c.args.out.now.bits.items)
