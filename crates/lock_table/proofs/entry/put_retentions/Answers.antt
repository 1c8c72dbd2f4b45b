use Rattle.lock_table.proofs.Imports.{◌<◌, length, map, [], ◌∷◌, arith, mapped_step, pass_goes, pass_fits, Held, in_retention_of}
use Rattle.lock_table.proofs.entry.put_retentions.Goals as goal

some_held : Held
some_held = grind arith

pub loop-preserved : goal.loop-preserved
loop-preserved c =
    let turn = in_retention_of c.args.conn c.args.retained in
    let less : c.loop.counter < length c.args.owners.now = omega (arith, c.len-end.ensures.value, c.loop-test.true) in
    let turned = c.turn_one.ensures some_held in (
      pass_fits (map turn) (λ held. turn held ∷ []) (mapped_step turn) _ _ _ _ some_held less c.loop.invariant.0 turned,
      pass_goes (map turn) (λ held. turn held ∷ []) (mapped_step turn) _ _ _ _ some_held _
          less c.loop.invariant.0 turned c.loop.invariant.1,
    )
