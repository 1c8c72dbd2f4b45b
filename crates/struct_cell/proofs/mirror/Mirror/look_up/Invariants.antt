use Rattle.struct_cell.proofs.Imports.{◌≡◌, ℕ, ◌<◌, ◌⊎◌, take, words_of, IsSpared, AreMirrorsOf, word_at, words_in}
use Rattle.struct_cell.proofs.mirror.Mirror.look_up.Given as goal

abbrev pub invariant-loop-place : goal.invariant-loop-place
invariant-loop-place g l = AreMirrorsOf l.fn.self l.self × ((conn word : ℕ)
    → 0 < conn → word < words_of l.fn.self.len → IsSpared (take l.place-index l.places) conn word ⊎ (word_at
    l.self.len l.self.words conn word ≡ words_in g.E.Engine.meaning l.machine.form l.machine.machine conn word))
