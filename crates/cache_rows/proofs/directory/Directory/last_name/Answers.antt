use Rattle.cache_rows.proofs.Imports.{◌≡◌, ◌-◌, length, sym, subst, arith, Listed}
use Rattle.cache_rows.proofs.IndexedLaws.{name_behind, last_in_front}
use Rattle.cache_rows.proofs.directory.Directory.last_name.Goals as goal

pub returns-then-changed-rows-clause-name : goal.returns-then-changed-rows-clause-name
returns-then-changed-rows-clause-name c = rw (← c.self.view_is) (name_behind _ _ c.self.inside.classes.names
    c.self.inside.order.order c.self.invariant (c.args.rows - 1) c.name_at.result (omega (
      arith,
      c.if-changed-rows.true,
      c.len-changed.ensures.names,
    )) (rw c.len-changed.ensures.names at c.name_at.ensures))

pub returns-else-changed-rows-clause-name : goal.returns-else-changed-rows-clause-name
returns-else-changed-rows-clause-name c =
    let all = subst (λ (l : Listed). c.args.rows ≡ length l.rows) (sym c.self.view_is) c.requires.all in
    rw (← c.self.view_is) (last_in_front _ _ c.self.inside.classes.names
    c.self.inside.order.order c.self.invariant c.args.rows c.last.result all c.requires.some
    (omega (arith, c.if-changed-rows.false, c.len-changed.ensures.names)) c.last.ensures)
