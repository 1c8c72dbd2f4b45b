use Rattle.struct_cell.proofs.Imports.{arith, rules, refl, subst₂}
use Rattle.struct_cell.proofs.KeptLaws.{cell_start}
use Rattle.struct_cell.proofs.cell.Cell.start.Goals as goal

pub boxed-requires-after_bounds : goal.boxed-requires-after_bounds
boxed-requires-after_bounds g c κs within =
    let laws = g.met.E.Engine g.world.𝓛 g.world.𝓜 g.world.𝓡 ((λ s x. x), (λ x. x), (λ x. x), λ x. x) in
    cell_start g.L.Link.calls g.L.Link.downs g.L.Link.faults g.E.Engine.meaning _ _ _ _ _
    refl (search rules) (λ conn index. laws.clear_empty _ conn index) (search rules, search rules)
    (grind (arith, subst₂)) (search rules) (search rules) (search rules) (search rules)
