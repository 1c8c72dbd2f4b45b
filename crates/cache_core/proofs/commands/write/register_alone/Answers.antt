use Rattle.cache_core.proofs.Imports.{not, Some, ap, arith, gains_falls, length-filter-le, Registration, regs_with, regs_without_name, ends_with_name, stands, falls_filter, gains_then_falls, is_among, regs_spared}
use Rattle.cache_core.proofs.EndLaws.{stands_kept_twice, falls_twice, own_spared}
use Rattle.cache_core.proofs.commands.write.register_alone.Goals as goal

pub drop_name-requires : goal.drop_name-requires
drop_name-requires c = grind (arith, length-filter-le)

pub returns-clause-bits : goal.returns-clause-bits
returns-clause-bits c =
    let p = λ (reg : Registration). not (ends_with_name c.args.name.now (Some c.args.by) reg) in
    let q = λ (reg : Registration). not (is_among c.args.gone.now reg.name) in
    let made = regs_with c.args.by c.args.index c.args.name.now c.args.regs.now.regs in
    let alone = regs_without_name c.args.name.now (Some c.args.by) made in
    let later = regs_spared c.args.gone.now alone in
    let first = rw c.set.ensures.regs at c.set.ensures.bits in
    let second = rw (c.drop_name.ensures.regs, c.set.ensures.regs) at c.drop_name.ensures.bits in
    let third = rw (c.end_regs.ensures.regs, c.drop_name.ensures.regs, c.set.ensures.regs) at c.end_regs.ensures.bits
    in
    let both = gains_falls (stands made) (stands alone) (stands later) c.set.new.out.bits.items
    c.drop_name.new.out.bits.items c.end_regs.new.out.bits.items
    (falls_filter p made) (falls_filter q alone) second third in
    rw (c.end_regs.ensures.regs, c.drop_name.ensures.regs, c.set.ensures.regs) (gains_then_falls c.args.by
    c.args.index c.args.name.now c.args.regs.now.regs later c.args.out.now.bits.items c.set.new.out.bits.items
    c.end_regs.new.out.bits.items (stands_kept_twice p q c.args.by c.args.index c.args.name.now c.args.regs.now.regs
    (own_spared c.args.by c.args.index c.args.name.now) (ap not c.requires.spared)) (falls_twice p q made) first both)
