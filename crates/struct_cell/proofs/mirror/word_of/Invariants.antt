use Rattle.struct_cell.proofs.Imports.{◌≡◌, ◌+◌, ◌*◌, word_from, shown_in}
use Rattle.struct_cell.proofs.mirror.word_of.Given as goal

abbrev pub invariant-loop-k : goal.invariant-loop-k
invariant-loop-k g l = (l.vector ≡ l.machine.form.vector) × (l.bits ≡ word_from
    (λ k. shown_in g.E.Engine.meaning l.machine.form l.machine.machine l.fn.conn (32 * l.word + k)) l.k)
