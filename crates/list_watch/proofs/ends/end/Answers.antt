use Rattle.list_watch.proofs.Imports.{◌≡◌, not, length, refl, ap, arith, rules, filter_same, length-filter_both, is_ended, rows_ended}
use Rattle.list_watch.proofs.BitLaws.{gains_ended}
use Rattle.list_watch.proofs.ends.end.Goals as goal

kept : (c : goal.After-retain) → c.retain.new.self.items ≡ rows_ended c.args.ends c.args.rows.now.items
kept c = filter_same _ _ _ (λ x b f h. search rules) _ _ c.retain.ensures.filtered

pub returns-clause-rows : goal.returns-clause-rows
returns-clause-rows c = kept c

pub returns-clause-bits : goal.returns-clause-bits
returns-clause-bits c = rw (kept c, c.tell.ensures.bits, c.deref.ensures.value) (gains_ended (is_ended c.args.ends)
    c.args.rows.now.items c.args.out.now.bits.items c.requires.apart.one_at_index)

pub returns-clause-fewer : goal.returns-clause-fewer
returns-clause-fewer c =
    let count = ap length (kept c) in
    let both = length-filter_both (is_ended c.args.ends) (λ row. not (is_ended c.args.ends row)) (λ _. refl)
    c.args.rows.now.items in
    omega (arith, count, both, c.retain.new.self.ok.0, c.args.rows.now.ok.0)
