use Rattle.struct_cell.proofs.Imports.{fold, take, Bits, AreMirrorsOf, AreWordsOf, with_told}
use Rattle.struct_cell.proofs.mirror.Mirror.take_over.Given as goal

abbrev pub invariant-loop-change : goal.invariant-loop-change
invariant-loop-change l =
    AreMirrorsOf l.fn.self l.self × ((before : Bits) → AreWordsOf l.fn.self.conns l.fn.self.len l.fn.self.words before
    → AreWordsOf l.self.conns l.self.len l.self.words (fold with_told before (take l.change-index l.bits)))
