use Rattle.cache_regs.proofs.Imports.{◌≡◌, ◌==◌, true, false, refl, sym, arith, nat_tests, is_elsewhere}
use Rattle.cache_regs.proofs.EndLaws.{fits_same, ended_same, ended_never, ended_none, elsewhere_at, elsewhere_here, elsewhere_none}
use Rattle.cache_regs.proofs.ends.end_elsewhere.Goals as goal

pub end_at-requires : goal.end_at-requires
end_at-requires c =
    let test = c.if-at-index.true in
    let apart : (c.in-Some.at == c.args.index) ≡ false = grind (arith, nat_tests) in
    fits_same _ _ _ _ (sym (elsewhere_at c.args.conn c.args.name.now
    c.in-Some.at c.args.index c.args.maps.now.regs apart c.in-Some.ensures.alone)) c.requires

pub returns-then-at-index-clause-ended : goal.returns-then-at-index-clause-ended
returns-then-at-index-clause-ended c =
    let test = c.if-at-index.true in
    let apart : (c.in-Some.at == c.args.index) ≡ false = grind (arith, nat_tests) in
    ended_same _ _ _ _ _ _ _ _ (elsewhere_at c.args.conn c.args.name.now
    c.in-Some.at c.args.index c.args.maps.now.regs apart c.in-Some.ensures.alone) c.end_at.ensures.ended

pub returns-else-at-index-clause-ended : goal.returns-else-at-index-clause-ended
returns-else-at-index-clause-ended c =
    let test = c.if-at-index.false in
    let here : (c.in-Some.at == c.args.index) ≡ true = grind (arith, nat_tests) in
    ended_same _ _ _ _ _ _ _ _
    (elsewhere_here _ _ _ _ _ here c.in-Some.ensures.alone) (ended_never _ _ _ _ (λ reg. refl))

pub returns-in_default-clause-ended : goal.returns-in_default-clause-ended
returns-in_default-clause-ended c = ended_none (is_elsewhere c.args.conn c.args.index c.args.name.now) _ _
    _ (elsewhere_none c.args.conn c.args.index c.args.name.now c.args.maps.now.regs (sym c.in_default.ensures.index))
