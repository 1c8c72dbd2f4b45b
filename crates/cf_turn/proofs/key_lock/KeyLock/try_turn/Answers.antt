use Rattle.cf_turn.proofs.Imports.{rules, [], ap, sym, ◌∙◌, stand_waiting}
use Rattle.cf_turn.proofs.Steps.{tries}
use Rattle.cf_turn.proofs.key_lock.KeyLock.try_turn.Goals as goal

pub compare_exchange-found-requires : goal.compare_exchange-found-requires
compare_exchange-found-requires g c =
    let inside = sym c.self.view_is in
    let waits = c.requires.waits ∙ ap (λ l. (stand_waiting l.key, [])) inside in (
      c.requires.name ∙ ap (λ l. l.name) inside,
      search rules,
      tries g.F.Keeps.stands (g.F.Keeps.key_of c.self.inside.table.shared.key.value) _ c.args.seat.now.id
          c.args.seat.now.me waits,
    )
