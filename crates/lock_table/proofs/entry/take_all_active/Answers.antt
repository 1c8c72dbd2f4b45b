use Rattle.lock_table.proofs.Imports.{◌≡◌, List, ◌++◌, ConnId, ◌<◌, ◌&&◌, not, cond, length, [], ◌∷◌, arith, filtered_step, pass_goes, pass_fits, Held, is_by, owners_without_active}
use Rattle.lock_table.proofs.entry.take_all_active.Goals as goal

some_held : Held
some_held = grind arith

abbrev left : ConnId → Held → List Held
left conn held = cond (not (is_by conn held && not held.retained)) (held ∷ []) []

step : (conn : ConnId) (x : Held) (xs : List Held)
    → owners_without_active conn (x ∷ xs) ≡ left conn x ++ owners_without_active conn xs
step conn x xs = filtered_step (λ (held : Held). not (is_by conn held && not held.retained)) x xs

pub loop-preserved : goal.loop-preserved
loop-preserved c =
    let conn = c.args.conn in
    let less : c.loop.counter < length c.args.owners.now = omega (arith, c.len-end.ensures.value, c.loop-test.true) in
    let sifted = c.sift_one.ensures.owners some_held in (
      pass_fits (owners_without_active conn) (left conn) (step conn) _ _ _ _ some_held less c.loop.invariant.0 sifted,
      omega (arith, c.loop.invariant.1, c.sift_one.ensures.spare),
      pass_goes (owners_without_active conn) (left conn) (step conn) _ _ _ _ some_held _ less c.loop.invariant.0 sifted
          c.loop.invariant.2,
    )
