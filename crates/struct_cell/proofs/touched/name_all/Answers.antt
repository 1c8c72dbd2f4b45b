use Rattle.struct_cell.proofs.Imports.{arith, rules, ◌<◌, ◌≤◌, ℕ, subst, sym, ◌∙◌}
use Rattle.struct_cell.proofs.PlaceLaws.{none-named}
use Rattle.struct_cell.proofs.touched.name_all.Goals as goal

pub loop-change-preserved : goal.loop-change-preserved
loop-change-preserved c =
    let inv = c.loop-change.invariant in
    let same = c.loop-change.invariant.table in
    record {
      table = (c.name_one.ensures.table.0 ∙ same.0, c.name_one.ensures.table.1 ∙ same.1);
      spared = λ conn index some most below spared. none-named _ c.args.bits.now c.loop-change.change-index
          conn index c.loop-change-test.true (inv.spared conn index some most below (grind arith))
          (c.name_one.ensures.spared (search rules) conn index some
          (subst (λ (n : ℕ). conn.0 ≤ n) (sym same.0) most) (subst (λ (n : ℕ). index < n) (sym same.1) below) spared);
    }
