use Rattle.vec_words.proofs.Imports.{◌≡◌, map, range_with_len, IsFirst, new_pass}
use Rattle.vec_words.proofs.vectors.Vectors.passes.Given as goal

abbrev pub invariant-loop-number : goal.invariant-loop-number
invariant-loop-number g l = IsFirst l.self l.seat l.number ×
    (l.passes.items ≡ map (new_pass l.self) (range_with_len 0 l.number))
