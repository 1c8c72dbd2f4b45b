use Rattle.lock_table.proofs.Imports.{true, not, refl, arith, ◌∙◌, length-map, resource_before, part_of, few_in, put_seen, put_table, of_seen, last_front, last_stop, last_agree, last_put}
use Rattle.lock_table.proofs.table.put_new.Goals as goal

pub put-requires-clause-few : goal.put-requires-clause-few
put-requires-clause-few c = grind (arith, few_in, length-map)

pub returns-clause-kept : goal.returns-clause-kept
returns-clause-kept c = of_seen part_of _ _ (put_table part_of _ _ c.requires.kept _ _ c.slot_of-slot.ensures.within
    (λ y. not (resource_before c.args.held.r y.r)) (λ y. true) c.args.held c.slot_of-slot.ensures.slot
    (last_front part_of c.args.held) (last_stop part_of c.args.held) (last_agree part_of c.args.held)
    (λ y e. refl) _ (c.put.ensures.owners ∙ last_put part_of c.args.held _) c.requires.none)

pub returns-clause-owners : goal.returns-clause-owners
returns-clause-owners c = put_seen part_of _ _ c.requires.kept
    _ _ c.slot_of-slot.ensures.within (λ y. not (resource_before c.args.held.r y.r)) (λ y. true)
    c.args.held c.slot_of-slot.ensures.slot (last_front part_of c.args.held) (last_stop part_of c.args.held)
    (last_agree part_of c.args.held) (λ y e. refl) _ (c.put.ensures.owners ∙ last_put part_of c.args.held _)
