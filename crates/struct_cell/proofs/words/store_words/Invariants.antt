use Rattle.struct_cell.proofs.Imports.{take, StoresEach, word_at}
use Rattle.struct_cell.proofs.words.store_words.Given as goal

abbrev pub invariant-loop-place : goal.invariant-loop-place
invariant-loop-place g l = StoresEach l.vectors.conns l.vectors.len
    (word_at l.touched.len l.touched.words) (take l.place-index l.places) l.fn.seat l.seat
