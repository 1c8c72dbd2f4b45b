use Rattle.vec_words.proofs.Imports.{ap, sym, ◌∙◌, arith, WordTable}
use Rattle.vec_words.proofs.Steps.{learns}
use Rattle.vec_words.proofs.vectors.Vectors.load_count.Goals as goal

pub load-requires : goal.load-requires
load-requires g c = (
  c.requires.table.0 ∙ sym (ap (λ (t : WordTable). t.id) c.self.view_is),
  omega (arith, c.self.invariant.words_is),
  learns c.self.inside.table.shared.key c.self.inside.table.shared.table_id.slots c.args.seat.now.id
      c.args.seat.now.me c.requires.pass.0 c.requires.pass.1
      (c.requires.table.1 ∙ sym (ap (λ (t : WordTable). t.len) c.self.view_is) ∙ sym c.self.invariant.len_is),
)

pub overflow_cast-result : goal.overflow_cast-result
overflow_cast-result g c = let h = c.load.ensures.2.1.small in omega (arith, h)
