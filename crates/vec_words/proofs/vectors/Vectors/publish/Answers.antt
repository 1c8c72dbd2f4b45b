use Rattle.vec_words.proofs.Imports.{ap, sym, ◌∙◌, subst, arith, IsOpen, count_of, flying_of, WordTable}
use Rattle.vec_words.proofs.{Begun.open_begun, Writes.publishes}
use Rattle.vec_words.proofs.vectors.Vectors.publish.Goals as goal

pub store-requires : goal.store-requires
store-requires g c =
    let log = c.args.seat.now.me.0.log in (
      c.requires.table ∙ sym (ap (λ (t : WordTable). t.id) c.self.view_is),
      omega (arith, c.self.invariant.words_is),
      publishes c.self.inside.table.shared.key c.self.inside.table.shared.table_id.slots c.args.seat.now.id
          c.args.seat.now.me c.from.result g.A.About.about c.requires.one.0 c.requires.one.1 c.requires.pass.0
          c.requires.pass.1 (omega (arith, c.from.ensures)) (subst (IsOpen (count_of log) (flying_of log))
          (sym c.from.ensures) (open_begun c.args.number log c.requires.number.1 c.requires.number.0)),
    )
