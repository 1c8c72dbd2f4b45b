use Rattle.cf_turn.proofs.Imports.{rules, ap, sym, ◌∙◌, subst}
use Rattle.cf_turn.proofs.Steps.{gives-back}
use Rattle.cf_turn.proofs.key_lock.KeyLock.free.Goals as goal

pub store-requires : goal.store-requires
store-requires g c =
    let key = g.F.Keeps.key_of c.self.inside.table.shared.key.value in
    let me = c.args.seat.now.me in
    let had = c.requires.turn.1 in
    let fits : g.F.Keeps.stands key had.0 = subst (λ k. g.F.Keeps.stands k had.0)
    (sym (ap (λ l. l.key) c.self.view_is)) had.2 in (
      c.requires.name ∙ sym (ap (λ l. l.name) c.self.view_is),
      search rules,
      gives-back g.F.Keeps.stands key _ c.args.seat.now.id me had.0 c.requires.turn.0 had.1 fits,
    )
