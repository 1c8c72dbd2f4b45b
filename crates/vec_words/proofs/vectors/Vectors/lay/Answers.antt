use Rattle.vec_words.proofs.Imports.{◌≡◌, ◌+◌, ℕ, suc, arith}
use Rattle.vec_words.proofs.Steps.{starts}
use Rattle.vec_words.proofs.vectors.Vectors.lay.Goals as goal

one_more : (n : ℕ) → 1 + n ≡ suc n
one_more n = omega arith

pub of_words-requires : goal.of_words-requires
of_words-requires g c =
    let len = c.args.len in
    starts (record { conns = c.args.conns; len = len }) c.as_slice.result.now (grind (arith, one_more))
