use Rattle.cache_regs.proofs.Imports.{◌≡◌, ◌≤◌, ◌+◌, ◌-◌, min, not, length, filter, subst, arith, list_all-filter, Registration, ends_with_name, Registry}
use Rattle.cache_regs.proofs.{RegLaws.registry-filter, EndLaws.fits_few, EndLaws.left_counted}
use Rattle.cache_regs.proofs.regs.Regs.drop_name.Goals as goal

pub end_name-requires-clause-room : goal.end_name-requires-clause-room
end_name-requires-clause-room c = fits_few _ _ _ (grind arith)

pub invariant_of-self : goal.invariant_of-self
invariant_of-self c =
    let stays = λ (reg : Registration). not (ends_with_name c.args.name.now c.args.spare reg) in
    let fewer = (left_counted _ _ _ _ _ _ _ c.end_name.ensures.ended).0 in
    record {
      registry = rw c.end_name.ensures.ended.gone (registry-filter _ _ c.self.invariant.registry);
      callers = grind (arith, list_all-filter);
      within = grind (arith, list_all-filter);
      few = omega (arith, fewer, c.self.invariant.few);
    }

pub overflow_sub-result : goal.overflow_sub-result
overflow_sub-result c =
    let fewer = (left_counted (ends_with_name c.args.name.now c.args.spare) _ _ _ _ _ _ c.end_name.ensures.ended).0 in
    omega (arith, fewer, c.len.ensures, c.len-before.ensures)

pub returns-clause-count : goal.returns-clause-count
returns-clause-count c =
    let fewer = (left_counted (ends_with_name c.args.name.now c.args.spare) _ _ _ _ _ _ c.end_name.ensures.ended).0 in
    subst (λ (r : Registry). c.len-before.result - c.len.result ≡ length (filter (ends_with_name
    c.args.name.now c.args.spare) r.regs)) c.self.view_is (omega (arith, fewer, c.len.ensures, c.len-before.ensures))

pub returns-clause-room : goal.returns-clause-room
returns-clause-room c =
    let left = left_counted (ends_with_name c.args.name.now c.args.spare) _ _ _ _ _ _ c.end_name.ensures.ended in
    omega (arith, left.0, left.1, c.len.ensures, c.len-before.ensures)

pub returns-clause-fewer : goal.returns-clause-fewer
returns-clause-fewer c =
    let fewer = (left_counted (ends_with_name c.args.name.now c.args.spare) _ _ _ _ _ _ c.end_name.ensures.ended).0 in
    subst (λ (r : Registry). length c.end_name.new.maps.regs + (c.len-before.result - c.len.result) ≡ length r.regs)
    c.self.view_is (omega (arith, fewer, c.len.ensures, c.len-before.ensures))

pub returns-clause-place : goal.returns-clause-place
returns-clause-place c =
    let fewer = (left_counted (ends_with_name c.args.name.now c.args.spare) _ _ _ _ _ _ c.end_name.ensures.ended).0 in
    subst (λ (r : Registry). r.room ≤ min c.end_name.new.maps.room (4294967295 - length c.end_name.new.maps.regs))
    c.self.view_is (omega (arith, fewer, c.end_name.ensures.place))
