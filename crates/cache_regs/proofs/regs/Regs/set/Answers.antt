use Rattle.cache_regs.proofs.Imports.{◌≡◌, ◌≤◌, ◌+◌, length, ap, sym, subst, arith, lt-ltb, insertion, none_filtered, Registration, stands_before, regs_with}
use Rattle.cache_regs.proofs.KeptLaws.{all_with}
use Rattle.cache_regs.proofs.RegLaws.{one_elsewhere, filter-replaced, registry-with}
use Rattle.cache_regs.proofs.{BitLaws.gains_with, EndLaws.fits_few, EndLaws.left_few, EndLaws.left_counted}
use Rattle.cache_regs.proofs.regs.Regs.set.Goals as goal

pub end_elsewhere-requires : goal.end_elsewhere-requires
end_elsewhere-requires c =
    let few = one_elsewhere c.args.conn c.args.index c.args.name c.self.inside.maps.regs
    c.self.invariant.registry.one_for_name in
    fits_few _ _ _ (omega (arith, few, c.requires.room))

pub put-requires-clause-nowhere : goal.put-requires-clause-nowhere
put-requires-clause-nowhere c = grind (arith, none_filtered)

pub put-requires-clause-place : goal.put-requires-clause-place
put-requires-clause-place c = grind arith

pub put-requires-clause-room : goal.put-requires-clause-room
put-requires-clause-room c =
    let few = one_elsewhere c.args.conn c.args.index c.args.name c.self.inside.maps.regs
    c.self.invariant.registry.one_for_name in
    let left = left_few _ _ _ _ _ _ _ 1 c.end_elsewhere.ensures.ended few in
    omega (arith, left, c.requires.room)

set_there : (c : goal.After-put) → c.put.new.maps.regs ≡ regs_with c.args.conn c.args.index c.args.name
    c.self.inside.maps.regs
set_there c =
    let new : Registration = record { conn = c.args.conn; index = c.args.index; name = c.args.name } in
    rw (c.put.ensures.regs, c.end_elsewhere.ensures.ended.gone) (ap (insertion (λ (reg : Registration). stands_before
    reg new) new) (filter-replaced c.args.conn c.args.index c.args.name c.self.inside.maps.regs))

set_more : (c : goal.After-put) → length c.put.new.maps.regs ≤ length c.self.inside.maps.regs + 1
set_more c =
    let fewer = (left_counted _ _ _ _ _ _ _ c.end_elsewhere.ensures.ended).0 in
    omega (arith, c.put.ensures.more, fewer)

pub invariant_of-self : goal.invariant_of-self
invariant_of-self c =
    let place = subst (λ r. 1 ≤ r.room) (sym c.self.view_is) c.requires.place in
    let more = set_more c in
    record {
      registry = rw (set_there c) (registry-with _ _ _ _ c.self.invariant.registry);
      callers = rw (set_there c) (grind (arith, all_with, lt-ltb));
      within = rw (set_there c) (grind (arith, all_with, lt-ltb));
      few = omega (arith, place, more);
    }

pub returns-clause-regs : goal.returns-clause-regs
returns-clause-regs c = rw (← c.self.view_is) (set_there c)

pub returns-clause-bits : goal.returns-clause-bits
returns-clause-bits c =
    let new : Registration = record { conn = c.args.conn; index = c.args.index; name = c.args.name } in
    let first = rw c.end_elsewhere.ensures.ended.gone at c.end_elsewhere.ensures.ended.bits in
    let second = rw (c.put.ensures.regs, c.end_elsewhere.ensures.ended.gone) at c.put.ensures.bits in
    rw (← c.self.view_is, c.put.ensures.regs, c.end_elsewhere.ensures.ended.gone) (gains_with _ _ _ _ _ first second)

pub returns-clause-room : goal.returns-clause-room
returns-clause-room c =
    let few = one_elsewhere c.args.conn c.args.index c.args.name c.self.inside.maps.regs
    c.self.invariant.registry.one_for_name in
    let left = left_few _ _ _ _ _ _ _ 1 c.end_elsewhere.ensures.ended few in
    omega (arith, left, c.put.ensures.room)

pub returns-clause-more : goal.returns-clause-more
returns-clause-more c = grind (arith, set_more)

pub returns-clause-place : goal.returns-clause-place
returns-clause-place c = grind (arith, set_more)
