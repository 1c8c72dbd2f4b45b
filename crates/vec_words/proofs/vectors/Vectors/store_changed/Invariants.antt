use Rattle.vec_words.proofs.Imports.{take, StoresEach}
use Rattle.vec_words.proofs.vectors.Vectors.store_changed.Given as goal

-- the words that were named so far are stored
abbrev pub invariant-loop-at : goal.invariant-loop-at
invariant-loop-at g l = StoresEach l.self.conns l.self.len (g.C.Changes.bits_in l.changes)
    (take l.at (g.C.Changes.places l.changes)) l.initial.seat l.seat
