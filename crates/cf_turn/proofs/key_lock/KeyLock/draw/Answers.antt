use Rattle.cf_turn.proofs.Imports.{◌∷◌, Some, ap, sym, ◌∙◌, rest}
use Rattle.cf_turn.proofs.key_lock.KeyLock.draw.Goals as goal

pub exchange-requires : goal.exchange-requires
exchange-requires g c =
    let had = c.requires.turn.1 in (
      c.requires.name ∙ sym (ap (λ l. l.name) c.self.view_is),
      (Some had.0, had.1 ∙ ap (λ l. (0, Some had.0) ∷ rest l) (sym had.1)),
    )
