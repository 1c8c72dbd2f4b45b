use Rattle.cache_regs.proofs.Imports.{◌≤◌, ◌-◌, min, not, length, subst, arith, list_all-filter, Registration, is_of, Registry}
use Rattle.cache_regs.proofs.{RegLaws.registry-filter, EndLaws.fits_few, EndLaws.left_counted}
use Rattle.cache_regs.proofs.regs.Regs.drop_conn.Goals as goal

pub end_conn-requires-clause-room : goal.end_conn-requires-clause-room
end_conn-requires-clause-room c = fits_few _ _ _ (grind arith)

pub invariant_of-self : goal.invariant_of-self
invariant_of-self c =
    let stays = λ (reg : Registration). not (is_of c.args.conn reg) in
    let fewer = (left_counted _ _ _ _ _ _ _ c.end_conn.ensures.ended).0 in
    record {
      registry = rw c.end_conn.ensures.ended.gone (registry-filter _ _ c.self.invariant.registry);
      callers = grind (arith, list_all-filter);
      within = grind (arith, list_all-filter);
      few = omega (arith, fewer, c.self.invariant.few);
    }

pub returns-clause-place : goal.returns-clause-place
returns-clause-place c =
    let fewer = (left_counted (is_of c.args.conn) _ _ _ _ _ _ c.end_conn.ensures.ended).0 in
    subst (λ (r : Registry). r.room ≤ min c.end_conn.new.maps.room (4294967295 - length c.end_conn.new.maps.regs))
    c.self.view_is (omega (arith, fewer, c.end_conn.ensures.place))
