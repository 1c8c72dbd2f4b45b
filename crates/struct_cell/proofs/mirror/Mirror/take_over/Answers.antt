use Rattle.struct_cell.proofs.Imports.{take, fold, subst, arith, ◌∙◌, take_all, Bits, AreWordsOf, with_told}
use Rattle.struct_cell.proofs.MirrorLaws.{told_more}
use Rattle.struct_cell.proofs.mirror.Mirror.take_over.Goals as goal

pub loop-change-preserved : goal.loop-change-preserved
loop-change-preserved c = (
  (c.take_bit.ensures.table.0 ∙ c.loop-change.invariant.0.0, c.take_bit.ensures.table.1 ∙ c.loop-change.invariant.0.1),
  λ before are. subst (λ (bits : Bits). AreWordsOf c.take_bit.new.self.conns
      c.take_bit.new.self.len c.take_bit.new.self.words bits) (told_more before c.args.bits.now
      c.loop-change.change-index _ c.loop-change-test.true) (c.take_bit.ensures.words (fold
      with_told before (take c.loop-change.change-index c.args.bits.now)) (c.loop-change.invariant.1 before are)),
)

pub returns-clause-words : goal.returns-clause-words
returns-clause-words c = grind (arith, take_all)
